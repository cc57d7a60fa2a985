pub mod StepEnd
