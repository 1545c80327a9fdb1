mod CallLaws
mod Owner
mod ReadLaws
mod RowLaws
mod RunLaws
mod TextLaws
