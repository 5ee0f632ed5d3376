-- Portions that are taken one by one: what is left to test after each.
use Rattle.std.proofs.Common.{Bool, List, None, Some, Option}
use Rattle.records.specs.declared.content.Portion.{Portion}
use Rattle.grammar.specs.HandIn.{portions_ok, portions_after}

-- the test of what is left, behind the last one if there is one
abbrev pub portions_left : Option Portion → List Portion → Bool
portions_left None ps = portions_ok ps
portions_left (Some p) ps = portions_after p ps
