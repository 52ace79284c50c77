-- Words that laws speak in.
pub mod Once
pub mod Rising
pub mod Choice
pub mod Precedence
pub mod Waiters
pub mod TimeOrder
