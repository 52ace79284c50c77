pub mod BoxMails
pub mod BufferMails
pub mod Ending
pub mod Firsts
pub mod Rings
pub mod Starting
pub mod Tables
