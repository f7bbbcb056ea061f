pub mod VecItems
