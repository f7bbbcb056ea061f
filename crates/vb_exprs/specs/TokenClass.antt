-- What a token is in an expression, without its text.
use Rattle.std.specs.Prelude.{ℕ, Bool, true, false, List, [], ◌∷◌, map, filter, is_some, nat_eq}
use Rattle.std.specs.List.{range_with_len}
use Rattle.vb_tree.specs.Expressions.{keywords, Symbol, leaf, literal, naming, constant, self, new_word, type_of_word, address_of_word, by_val_word, not_word, operator, reserved_word, access, opening, closing, comma, assign, hash, other, Keyword, constant_word, self_word, new_keyword, type_of_keyword, address_of_keyword, by_val_keyword, not_keyword, operator_keyword, plain_keyword}
use Rattle.vb_exprs.specs.declared.token_class.Class.{Class}
use Rattle.vb_exprs.specs.declared.token_class.Class.TheVariants as c

abbrev pub class_of : Symbol → Class
class_of (leaf (literal l)) = c.Literal
class_of (leaf (naming n)) = c.Naming
class_of (leaf (constant n s)) = c.Constant
class_of (leaf (self n)) = c.Me
class_of (new_word n) = c.New
class_of (type_of_word n) = c.TypeOf
class_of (address_of_word n) = c.AddressOf
class_of (by_val_word n) = c.ByVal
class_of (not_word n) = c.Not
class_of (operator op w) = c.Operator op (is_some w)
class_of (reserved_word n) = c.Reserved
class_of (access bang) = c.Access bang
class_of opening = c.Opening
class_of closing = c.Closing
class_of comma = c.Comma
class_of assign = c.Assign
class_of hash = c.Hash
class_of other = c.Other

abbrev pub keyword_class : Keyword → Class
keyword_class constant_word = c.Constant
keyword_class self_word = c.Me
keyword_class new_keyword = c.New
keyword_class type_of_keyword = c.TypeOf
keyword_class address_of_keyword = c.AddressOf
keyword_class by_val_keyword = c.ByVal
keyword_class not_keyword = c.Not
keyword_class (operator_keyword op) = c.Operator op true
keyword_class plain_keyword = c.Reserved

-- the rows of a table of keywords
abbrev pub keyword_rows : List (List ℕ × Keyword) → List (List ℕ × Class)
keyword_rows ks = map (λ k. (k.0, keyword_class k.1)) ks

abbrev pub begins_with : (letter : ℕ) → List ℕ → Bool
begins_with letter [] = false
begins_with letter (c ∷ w) = nat_eq letter c

-- the rows of the reserved words that begin with a letter
unfoldable pub rows_with : (letter : ℕ) → List (List ℕ × Class)
rows_with letter = filter (λ r. begins_with letter r.0) (keyword_rows keywords)

-- those of each letter from a to z
unfoldable pub rows_by_letter : List (List (List ℕ × Class))
rows_by_letter = map (λ letter. rows_with letter) (range_with_len 97 26)
