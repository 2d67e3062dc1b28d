mod Numbers
mod Made
