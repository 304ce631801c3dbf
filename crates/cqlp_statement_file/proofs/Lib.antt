mod Found
mod Fronts
