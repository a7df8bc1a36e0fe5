pub mod JoinLemmas
pub mod ReportLemmas
pub mod RoomLemmas
pub mod ShownLemmas
pub mod TextLemmas
