pub mod RunLaws
pub mod EscapeLaws
pub mod HeadLaws
mod HexLaws
pub mod RepeatLaws
pub mod ClassBytes
pub mod ClassSets
pub mod ClassRead
pub mod ClassTexts
pub mod ClassFaults
pub mod ClassLaws
pub mod ClassTurns
pub mod Bytes
pub mod StepLaws
pub mod ReadsSpelled
pub mod SpelledRead
pub mod FaultLaws
pub mod FaultsMet
pub mod GrammarLaws
pub mod EachText
pub mod TurnLaws
pub mod BuiltLaws
mod ElemTokens
mod SetTrees
pub mod SignLaws
mod AllTrees
mod TheTrees
mod CharSetLaws
pub mod InsideLaws
mod CharTurns
pub mod AtomLaws
