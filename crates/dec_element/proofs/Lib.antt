mod Raw
mod Sounds
