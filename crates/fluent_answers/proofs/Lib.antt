mod Stands
mod SetSoFar
mod Shorter
mod Written
mod InOrder
mod NumberProofs
mod AnswerProofs
