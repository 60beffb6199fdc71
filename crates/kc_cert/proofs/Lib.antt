pub mod lemmas
mod Breaches
mod EdgeRows
mod EdgeSteps
mod LevelSteps
mod LineTexts
mod NamedLines
mod OneVerdict
mod ReadBack
mod SaidLines
mod Saying
mod SomeVerdict
mod Stepping
mod Written
