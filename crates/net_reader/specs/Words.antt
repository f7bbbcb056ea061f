-- The words that written lines are told apart by, and how a text is cut behind its first word.
use Rattle.std.specs.Prelude.{ℕ, Bool, false, cond, ◌&&◌, ◌==◌, nat_le, List, [], ◌∷◌, length, drop, codes, Option}
use Rattle.net_tree.specs.Spelling.{is_word_part}
use Rattle.net_exprs.specs.Readers.{look_up}

pub data Word : Type 0 where
  if_word : Word
  else_if_word : Word
  else_word : Word
  end_word : Word
  select_word : Word
  case_word : Word
  is_word : Word
  for_word : Word
  next_word : Word
  do_word : Word
  loop_word : Word
  while_word : Word
  until_word : Word
  with_word : Word
  goto_word : Word
  on_word : Word
  resume_word : Word
  exit_word : Word
  redim_word : Word
  preserve_word : Word
  dim_word : Word
  static_word : Word
  const_word : Word
  public_word : Word
  private_word : Word
  friend_word : Word
  sub_word : Word
  function_word : Word
  new_word : Word
  get_word : Word
  set_word : Word
  structure_word : Word
  property_word : Word
  read_only_word : Word
  write_only_word : Word
  class_word : Word
  module_word : Word
  option_word : Word
  by_val_word : Word
  by_ref_word : Word

-- the words that begin and part lines: none of them begins an expression
unfoldable pub line_words : List (List ℕ × Word)
line_words =
    (codes "If", if_word) ∷ (codes "ElseIf", else_if_word) ∷ (codes "Else", else_word) ∷ (codes "End", end_word)
    ∷ (codes "Select", select_word) ∷ (codes "Case", case_word) ∷ (codes "Is", is_word)
    ∷ (codes "For", for_word) ∷ (codes "Next", next_word) ∷ (codes "Do", do_word) ∷ (codes "Loop", loop_word) ∷ (codes "While", while_word) ∷ (codes "Until", until_word)
    ∷ (codes "With", with_word) ∷ (codes "GoTo", goto_word) ∷ (codes "On", on_word) ∷ (codes "Resume", resume_word) ∷ (codes "Exit", exit_word)
    ∷ (codes "ReDim", redim_word) ∷ (codes "Preserve", preserve_word)
    ∷ (codes "Dim", dim_word) ∷ (codes "Static", static_word) ∷ (codes "Const", const_word)
    ∷ (codes "Public", public_word) ∷ (codes "Private", private_word) ∷ (codes "Friend", friend_word)
    ∷ (codes "Sub", sub_word) ∷ (codes "Function", function_word) ∷ (codes "Get", get_word) ∷ (codes "Set", set_word)
    ∷ (codes "Structure", structure_word) ∷ (codes "Property", property_word) ∷ (codes "ReadOnly", read_only_word) ∷ (codes "WriteOnly", write_only_word)
    ∷ (codes "Class", class_word) ∷ (codes "Module", module_word) ∷ (codes "Option", option_word)
    ∷ (codes "ByVal", by_val_word) ∷ (codes "ByRef", by_ref_word)
    ∷ []

-- the word that stands in place of a procedure's name
unfoldable pub name_words : List (List ℕ × Word)
name_words = (codes "New", new_word) ∷ []

-- the longest front of letters, digits and underscores
abbrev pub word_front : List ℕ → List ℕ
word_front [] = []
word_front (c ∷ cs) = cond (is_word_part c) (c ∷ word_front cs) []

-- the same, or nothing where a digit comes first
abbrev pub first_word : List ℕ → List ℕ
first_word [] = []
first_word (c ∷ cs) = cond (nat_le 48 c && nat_le c 57) [] (word_front (c ∷ cs))

abbrev pub behind_word : List ℕ → List ℕ
behind_word text = drop (length (first_word text)) text

-- the word of lines that a text begins with
abbrev pub keyword_at : List ℕ → Option Word
keyword_at text = look_up (first_word text) line_words

abbrev pub name_word_at : List ℕ → Option Word
name_word_at text = look_up (first_word text) name_words

-- whether the last byte of a text is this
abbrev pub ends_with : ℕ → List ℕ → Bool
ends_with byte [] = false
ends_with byte (c ∷ []) = c == byte
ends_with byte (c ∷ d ∷ cs) = ends_with byte (d ∷ cs)
