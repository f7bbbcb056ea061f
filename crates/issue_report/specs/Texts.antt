-- What is said of each fault and of each rule, by its number.
use Rattle.std.specs.Prelude.{ℕ, nat_eq, List, [], ◌∷◌, codes, Option}
use Rattle.std.specs.Map.{lookup}

abbrev pub fault_texts : List (ℕ × List ℕ)
fault_texts =
    (1, codes "project file not found")
    ∷ (2, codes "module file not found")
    ∷ (3, codes "size limit passed")
    ∷ (4, codes "project line not of its form")
    ∷ (5, codes "module name used twice or reserved")
    ∷ (6, codes "byte without a character")
    ∷ (7, codes "continuation not allowed here")
    ∷ (8, codes "literal not closed")
    ∷ (9, codes "character that begins no token")
    ∷ (10, codes "no line form fits")
    ∷ (11, codes "closing line without its opener")
    ∷ (12, codes "opening line never closed")
    ∷ (13, codes "directive")
    ∷ (14, codes "nesting deeper than 64")
    ∷ (15, codes "class head not of its form")
    ∷ []

-- the text of a fault, where there is one of this number
abbrev pub fault_text : ℕ → Option (List ℕ)
fault_text kind = lookup (nat_eq kind) fault_texts

abbrev pub rule_texts : List (ℕ × List ℕ)
rule_texts =
    (1, codes "floating or date type or literal")
    ∷ (2, codes "operator not translated")
    ∷ (3, codes "name not declared")
    ∷ (4, codes "statement not translated")
    ∷ (5, codes "Variant value not translated")
    ∷ (6, codes "member not known before the run")
    ∷ (7, codes "property shape")
    ∷ (8, codes "reference argument does not fit")
    ∷ (9, codes "array bounds not constant or not one")
    ∷ (10, codes "element may be locked")
    ∷ (11, codes "array or type form not translated")
    ∷ (12, codes "fixed string static, in an array or by reference")
    ∷ (13, codes "Class_Terminate has no fixed time")
    ∷ (14, codes "block head may raise in a resumable procedure")
    ∷ (15, codes "jump not allowed")
    ∷ (16, codes "member name reserved")
    ∷ (17, codes "Option Compare Text")
    ∷ (18, codes "argument form not translated")
    ∷ (19, codes "Err member not translated")
    ∷ (20, codes "name declared twice or ambiguous")
    ∷ (21, codes "conversion not translated")
    ∷ (22, codes "operand type not translated")
    ∷ (23, codes "project line not carried over")
    ∷ (24, codes "As New in an array, by reference or in With")
    ∷ (25, codes "constant out of range")
    ∷ (26, codes "order of effects")
    ∷ []

-- the text of a rule, where there is one of this number
abbrev pub rule_text : ℕ → Option (List ℕ)
rule_text rule = lookup (nat_eq rule) rule_texts
