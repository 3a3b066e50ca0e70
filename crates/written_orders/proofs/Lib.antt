mod Few
mod Orders
