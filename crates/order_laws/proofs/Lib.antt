mod PlanLaws
mod DeedLaws
pub mod NameLaws
mod ThreadLaws
