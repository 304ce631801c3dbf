mod Followers
mod Found
