mod Opening
mod Subs
mod Law
