pub mod NumberText
