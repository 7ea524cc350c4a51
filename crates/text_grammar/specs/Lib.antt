pub mod Grammar
pub mod SizeLaws
pub mod SplitLaws
pub mod FormLaws
pub mod RuleLaws
