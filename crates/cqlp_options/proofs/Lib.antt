mod Files
mod Lines
mod Numbers
mod Words
