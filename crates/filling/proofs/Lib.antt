mod Giving
mod Laid
mod Puts
mod Readings
mod Leaving
