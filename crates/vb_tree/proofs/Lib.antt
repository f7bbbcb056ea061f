pub mod Views
mod FlatBodies
mod Examples
