mod OneStep
