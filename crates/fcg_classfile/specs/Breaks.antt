-- The order in which a class file is read: each definition of a part gives what is read there, or the first item of
-- it that breaks its rule.
pub mod Fault
pub mod Number
pub mod Groups
pub mod Pool
pub mod Names
pub mod Instructions
pub mod Attributes
pub mod Code
pub mod Bootstrap
pub mod Members
pub mod Class
