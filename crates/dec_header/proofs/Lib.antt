pub mod HeaderSame
pub mod PlanSame
mod PlanSteps
