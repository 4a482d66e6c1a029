mod AnswerLines
mod AnswerTexts
pub mod BalanceLemmas
mod DefaultLemmas
mod DroppingCells
mod InterpreterLaws
mod ListedLeaves
mod MadeLemmas
mod PutLemmas
mod SealLemmas
mod ShapeLemmas
pub mod ShownSessions
mod StoredLeaves
mod TupleParts
mod TurnLaws
mod TurnLemmas
