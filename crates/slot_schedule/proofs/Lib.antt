mod Agreement
mod Offers
mod Ports
mod Walks
mod Plans
mod Uses
mod Accesses
