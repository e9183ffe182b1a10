mod Digits
mod Lookup
mod Wording
