mod Finding
mod Noting
mod Telling
