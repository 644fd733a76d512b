mod Lists
mod Parts
mod Giving
mod Feeds
mod Calling
mod Few
mod Commanding
