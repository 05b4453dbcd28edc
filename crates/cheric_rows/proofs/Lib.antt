pub mod OneFunction
