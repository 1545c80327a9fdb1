mod WaitingLaws
mod HeldCells
