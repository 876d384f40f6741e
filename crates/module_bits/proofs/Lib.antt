mod Adding
mod Noting
mod Numbered
mod Pushing
mod Targets
