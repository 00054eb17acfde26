pub mod LineEntries
pub mod ServedLines
pub mod OwnReplies
pub mod OwnTexts
pub mod InTurn
pub mod DeskSteps
pub mod WholeRuns
