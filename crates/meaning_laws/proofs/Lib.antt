pub mod NetNumbers
pub mod RoundingScales
pub mod Operands
pub mod Products
pub mod Currencies
pub mod Typed
pub mod Arithmetic
pub mod WholeRows
pub mod Division
pub mod Comparison
pub mod BitRows
pub mod TextRows
pub mod ConversionRows
pub mod VariantRows
pub mod SameRows
pub mod LiteralRows
pub mod WrittenWhere
mod Examples
