-- The types of written Visual Basic .NET projects without memory.
use Rattle.std.specs.Prelude.{ℕ, List}

pub data TypeName : Type 0 where
  boolean : TypeName
  byte : TypeName
  short : TypeName
  integer : TypeName
  long : TypeName
  decimal : TypeName
  str : TypeName
  object : TypeName
  system_array : TypeName
  named : (path : List (List ℕ)) → TypeName
  array_of : (element : TypeName) → (rank : ℕ) → TypeName
