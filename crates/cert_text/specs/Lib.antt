pub mod Cert
pub mod Faults
pub mod Letters
pub mod Reading
pub mod Steps
pub mod Text
pub mod WrittenCert
