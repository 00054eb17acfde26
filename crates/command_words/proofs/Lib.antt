mod Numbers
mod FirstWords
mod Asked
mod OneCommand
mod Worded
