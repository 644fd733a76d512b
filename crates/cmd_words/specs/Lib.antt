pub mod ChoiceTexts
pub mod Words
pub mod Program
