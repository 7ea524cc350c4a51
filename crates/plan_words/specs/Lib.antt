pub mod PlanWords
