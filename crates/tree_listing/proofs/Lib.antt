mod Given
mod Naming
mod Ways
mod Walking
mod Volumes
