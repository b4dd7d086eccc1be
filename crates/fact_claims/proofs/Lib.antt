mod Lists
mod Auditing
