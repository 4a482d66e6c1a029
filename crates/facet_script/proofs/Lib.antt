mod AnsweredLines
mod CutLines
mod OneMoreTurn
mod ServedRuns
mod WrittenPieces
