mod Citing
pub mod StepLaws
pub mod RefusalLaws
pub mod SessionLaws
pub mod PageLaws
pub mod MarkLaws
pub mod RunLaws
pub mod SerialGets
pub mod SerialLists
pub mod SerialLocks
pub mod SerialAlone
pub mod SerialSteps
pub mod SerialOrder
pub mod SerialWhole
