-- Laws that belong to no one function. Walking: the search down a chain. Entering: one entry more in the table.
mod Walking
mod Entering
