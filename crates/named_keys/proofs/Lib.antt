mod FirstCalls
mod Going
mod Calling
mod Seeing
mod LineLaws
mod MapLaws
