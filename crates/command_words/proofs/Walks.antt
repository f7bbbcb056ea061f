-- What clap makes of the words behind `upgrade` and `check`, state by state of its walk.
use Rattle.std.proofs.Common.{◌≡◌, ℕ, Bool, true, false, cond, List, [], ◌∷◌, Option, Some, None, codes, refl, sym, ap, ap₂, subst, ◌∙◌}
use Rattle.std.proofs.lemmas.Bool.{and_parts}
use Rattle.std.specs.Prelude.{fold, drop}
use Rattle.std.specs.List.{list_all}
use Rattle.std.specs.Str.{bytes_eq}
use Rattle.clap.specs.Walk.{Held, Rule, Row, Text, Waiting, Walk, first_of, idle, option, positional, finished, has_row, nothing_held, positional_held, settled, stop_after, subcommand_met, value, walked}
use Rattle.clap.specs.Simple.{Shape, built, entered, filled, matches_of, with_index}
use Rattle.clap.specs.Kinds.{Kinds, or_else}
use Rattle.clap.specs.Faults.{check_fault, defaults_fault, entered_fault, fault_of, flags_fault, positional_fault, settle_fault, step_fault, turn_fault, use_fault, walk_fault}
use Rattle.clap.specs.declared.parser.matches.ValueSource.TheVariants.{CommandLine}
use Rattle.clap.specs.declared.builder.value_parser.Reading.TheVariants as reading
use Rattle.clap.specs.declared.error.kind.ErrorKind.{ErrorKind}
use Rattle.clap.specs.declared.error.kind.ErrorKind.TheVariants as kind
use Rattle.command_words.specs.Commands.{file_app, file_rule, last_is_dashes, settings_rule}
use Rattle.command_words.proofs.WordClasses.{Long, Plain, Short, class_of, dashes, is_dashes, is_joined, is_long, is_flag, is_plain, is_short, flag, joined, printable}

-- ---- the command as it is built

abbrev pub shape : Shape
shape = (built file_app).top

abbrev pub rules : List Rule
rules = shape.rules

abbrev Pending : Type 0
Pending = Option (Text × List Text)

-- what is held between two words
abbrev held : List Row → Pending → Held
held rows pending = record { rows = rows; pending = pending; skip = 0 }

-- where the walk stands between two words
abbrev at : Held → Waiting → ℕ → Bool → Walk
at h waiting position is_trailing = record { held = h; waiting = waiting; position = position; is_trailing = is_trailing; stopped = None }

abbrev start : Walk
start = at nothing_held idle 1 false

abbrev after : Walk → List Text → Walk
after w words = fold (walked rules []) w words

abbrev end_fault : Held → Kinds
end_fault end = or_else (settle_fault rules false end) (or_else (defaults_fault (settled rules end).rows rules) (check_fault shape (finished rules end) false))

-- the faults of a walk from a state on
abbrev faults : Walk → List Text → Kinds
faults w words = or_else (walk_fault shape [] w words) (end_fault (after w words).held)

-- ---- the parse is the walk from its start

no_entered : (stop : Option (Text × List Text)) → entered (built file_app) stop ≡ None
no_entered None = refl
no_entered (Some p) = refl

no_entered_fault : (stop : Option (Text × List Text)) → entered_fault (built file_app) stop ≡ []
no_entered_fault None = refl
no_entered_fault (Some p) = refl

pub fault_is : (words : List Text) → fault_of file_app words ≡ faults start (drop 1 words)
fault_is words = rw (no_entered (stop_after rules [] (drop 1 words)), no_entered_fault (stop_after rules [] (drop 1 words))) refl

pub matches_are : (words : List Text) → matches_of file_app words ≡ finished rules (after start (drop 1 words)).held
matches_are words = refl

-- ---- one word

or_else_first : (a b : Kinds) → or_else a b ≡ [] → a ≡ []
or_else_first [] b e = refl
or_else_first (k ∷ ks) b e = e

or_else_groups : (a b c : Kinds) → or_else (or_else a b) c ≡ or_else a (or_else b c)
or_else_groups [] b c = refl
or_else_groups (k ∷ ks) b c = refl

one_word : (w : Walk) (word : Text) (more : List Text) → faults w (word ∷ more) ≡ or_else (turn_fault shape [] w word) (faults (walked rules [] w word) more)
unfolding walk_fault
one_word w word more = or_else_groups (turn_fault shape [] w word) _ _

-- no fault behind a word means none at it
at_word : (w : Walk) (word : Text) (more : List Text) → faults w (word ∷ more) ≡ [] → turn_fault shape [] w word ≡ []
at_word w word more e = or_else_first _ _ (sym (one_word w word more) ∙ e)

behind_word : (w next : Walk) (word : Text) (more : List Text) → walked rules [] w word ≡ next → faults w (word ∷ more) ≡ [] → faults next more ≡ []
behind_word w next word more is e =
    let none = at_word w word more e in
    sym (one_word w word more ∙ ap₂ (λ t x. or_else t (faults x more)) none is) ∙ e

no_words : (w : Walk) → faults w [] ≡ [] → settle_fault rules false w.held ≡ []
unfolding walk_fault
no_words w e = or_else_first _ _ e

never : {k : ErrorKind} {ks : Kinds} → k ∷ ks ≡ [] → ⊥
never e = cc e

or_else_second : (a b : Kinds) → or_else a b ≡ [] → b ≡ []
or_else_second [] b e = e
or_else_second (k ∷ ks) b e = absurd (never e)

no_subcommand : (waiting : Waiting) (word : Text) → subcommand_met [] waiting word ≡ None
no_subcommand idle word = refl
no_subcommand (option id) word = refl
no_subcommand positional word = refl

refuses_long : (rows : List Row) (pending : Pending) (waiting : Waiting) (position : ℕ) (word : Text) → Long word
    → turn_fault shape [] (at (held rows pending) waiting position false) word ≡ kind.UnknownArgument ∷ []
refuses_long rows pending waiting position word l = rw (no_subcommand waiting word, l.apart, l.long, l.other) refl

refuses_short : (rows : List Row) (pending : Pending) (waiting : Waiting) (position : ℕ) (word : Text) → Short word
    → turn_fault shape [] (at (held rows pending) waiting position false) word ≡ kind.UnknownArgument ∷ []
unfolding flags_fault
refuses_short rows pending waiting position word s = rw (no_subcommand waiting word, s.apart, s.long, s.short, s.read) refl

refused : (ks : Kinds) (k : ErrorKind) → ks ≡ k ∷ [] → ks ≡ [] → ⊥
refused ks k a b = never (sym a ∙ b)

-- ---- the file and the option

abbrev file : Rule
file = with_index 1 (filled file_rule)

abbrev settings : Rule
settings = filled settings_rule

abbrev row : Text → Text → Row
row id v = record { id = id; values = v ∷ []; count = None; source = Some CommandLine; reading = reading.AsWritten }

abbrev file_row : Text → Row
file_row = row (codes "FILE")

abbrev settings_row : Text → Row
settings_row = row (codes "settings")

abbrev with_file : Text → Pending
with_file f = Some (codes "FILE", f ∷ [])

abbrev with_values : List Text → Pending
with_values vs = Some (codes "settings", vs)

abbrev place : Bool → ℕ
place is_first = cond is_first 1 2

-- the values that wait are refused once they are used
abbrev IsDead : List Row → List Text → Type 0
IsDead rows vs = use_fault false settings vs rows ≡ [] → ⊥

abbrev has_settings : List Row → Bool
has_settings rows = has_row (codes "settings") rows

none_is_dead : (rows : List Row) → IsDead rows []
none_is_dead rows e = never e

again_is_dead : (rows : List Row) (v : Text) → has_settings rows ≡ true → IsDead rows (v ∷ [])
again_is_dead rows v has e = never (rw has at e)

stuck : (first : Bool) (rows : List Row) (vs : List Text) → IsDead rows vs → step_fault shape (place first) (held rows (with_values vs)) value ≡ [] → ⊥
stuck true rows vs dead e = dead e
stuck false rows vs dead e = never e

dead_trailing : (first : Bool) (rows : List Row) (vs : List Text) (waiting : Waiting) → IsDead rows vs → (words : List Text)
    → faults (at (held rows (with_values vs)) waiting (place first) true) words ≡ [] → ⊥
dead_trailing first rows vs waiting dead [] e = dead (no_words (at (held rows (with_values vs)) waiting (place first) true) e)
dead_trailing first rows vs waiting dead (word ∷ more) e = stuck first rows vs dead (at_word (at (held rows (with_values vs)) waiting (place first) true) word more e)

behind_dashes : (h : Held) (waiting : Waiting) (position : ℕ) → walked rules [] (at h waiting position false) dashes ≡ at h waiting position true
unfolding walked
behind_dashes h waiting position = rw (no_subcommand waiting dashes) refl

-- no value may follow the option where it is refused
dead_idle : (first : Bool) (rows : List Row) (vs : List Text) → IsDead rows vs → (words : List Text) → list_all printable words ≡ true
    → faults (at (held rows (with_values vs)) idle (place first) false) words ≡ [] → ⊥
dead_idle first rows vs dead [] p e = dead (no_words (at (held rows (with_values vs)) idle (place first) false) e)
dead_idle first rows vs dead (word ∷ more) p e =
    let w = at (held rows (with_values vs)) idle (place first) false in
    let at_it = at_word w word more e in
    elim (class_of word (and_parts _ _ p).0) [
      | is_dashes is ↦ dead_trailing first rows vs idle dead more (behind_word w _ word more (ap (walked rules [] w) is ∙ behind_dashes (held rows (with_values vs)) idle (place first)) e)
      | is_flag is ↦ dead (or_else_first _ _ (subst (λ t. turn_fault shape [] w t ≡ []) is at_it))
      | is_joined v is ↦ dead (or_else_first _ _ (or_else_first _ _ (subst (λ t. turn_fault shape [] w t ≡ []) is at_it)))
      | is_long l ↦ refused _ _ (refuses_long rows (with_values vs) idle (place first) word l) at_it
      | is_short s ↦ refused _ _ (refuses_short rows (with_values vs) idle (place first) word s) at_it
      | is_plain h ↦ stuck first rows vs dead (rw (h.apart, h.long, h.short) at at_it)
    ]

takes_value : (first : Bool) (rows : List Row) (word : Text) → Plain word
    → walked rules [] (at (held rows (with_values [])) (option (codes "settings")) (place first) false) word
    ≡ at (held rows (with_values (word ∷ []))) idle (place first) false
unfolding walked
takes_value first rows word h = rw (h.apart, h.long, h.short) refl

-- the words go on with a value, from a state on
abbrev GoOn : (Text → List Text → Type 0) → List Text → Type 0
GoOn P words = (v : Text) × Plain v × ((more : List Text) × (words ≡ v ∷ more) × P v more)

-- behind the option's name a value stands
wants_value : (first : Bool) (rows : List Row) (words : List Text) → list_all printable words ≡ true
    → faults (at (held rows (with_values [])) (option (codes "settings")) (place first) false) words ≡ []
    → GoOn (λ v more. faults (at (held rows (with_values (v ∷ []))) idle (place first) false) more ≡ []) words
wants_value first rows [] p e = absurd (never (no_words (at (held rows (with_values [])) (option (codes "settings")) (place first) false) e))
wants_value first rows (word ∷ more) p e =
    let w = at (held rows (with_values [])) (option (codes "settings")) (place first) false in
    let at_it = at_word w word more e in
    elim (class_of word (and_parts _ _ p).0) [
      | is_dashes is ↦ absurd (dead_trailing first rows [] (option (codes "settings")) (none_is_dead rows) more
          (behind_word w _ word more (ap (walked rules [] w) is ∙ behind_dashes (held rows (with_values [])) (option (codes "settings")) (place first)) e))
      | is_flag is ↦ absurd (never (subst (λ t. turn_fault shape [] w t ≡ []) is at_it))
      | is_joined v is ↦ absurd (never (subst (λ t. turn_fault shape [] w t ≡ []) is at_it))
      | is_long l ↦ absurd (refused _ _ (refuses_long rows (with_values []) (option (codes "settings")) (place first) word l) at_it)
      | is_short s ↦ absurd (refused _ _ (refuses_short rows (with_values []) (option (codes "settings")) (place first) word s) at_it)
      | is_plain h ↦ (word, h, (more, refl, behind_word w _ word more (takes_value first rows word h) e))
    ]

-- ---- the option is taken once

abbrev rows_of : List Row → Pending → List Row
rows_of rows pending = (settled rules (held rows pending)).rows

behind_flag : (rows : List Row) (pending : Pending) (position : ℕ)
    → walked rules [] (at (held rows pending) idle position false) flag ≡ at (held (rows_of rows pending) (with_values [])) (option (codes "settings")) position false
unfolding walked
behind_flag rows pending position = refl

flag_again : (first : Bool) (rows : List Row) (pending : Pending) → has_settings (rows_of rows pending) ≡ true → (more : List Text) → list_all printable more ≡ true
    → faults (at (held rows pending) idle (place first) false) (flag ∷ more) ≡ [] → ⊥
flag_again first rows pending has more p e =
    let w = at (held rows pending) idle (place first) false in
    let (v, h, rest) = wants_value first (rows_of rows pending) more p (behind_word w _ flag more (behind_flag rows pending (place first)) e) in
    dead_idle first (rows_of rows pending) (v ∷ []) (again_is_dead (rows_of rows pending) v has) rest.0
    (and_parts _ _ (subst (λ ws. list_all printable ws ≡ true) rest.1 p)).1 rest.2

joined_again : (position : ℕ) (rows : List Row) (pending : Pending) → has_settings (rows_of rows pending) ≡ true → (v : Text)
    → turn_fault shape [] (at (held rows pending) idle position false) (joined v) ≡ [] → ⊥
joined_again position rows pending has v e =
    let used_it = or_else_second (settle_fault rules false (held rows pending)) (use_fault false settings (v ∷ []) (rows_of rows pending)) (or_else_first _ _ e) in
    never (rw has at used_it)

-- ---- behind the file

trailing_two : (h : Held) (waiting : Waiting) (words : List Text) → faults (at h waiting 2 true) words ≡ [] → words ≡ []
trailing_two h waiting [] e = refl
trailing_two h waiting (word ∷ more) e = absurd (never (at_word (at h waiting 2 true) word more e))

-- behind the file two minus signs end the words
ends_there : (rows : List Row) (pending : Pending) (word : Text) (more : List Text) → word ≡ dashes
    → faults (at (held rows pending) idle 2 false) (word ∷ more) ≡ [] → last_is_dashes (word ∷ more) ≡ false → ⊥
ends_there rows pending word more is e ends =
    let w = at (held rows pending) idle 2 false in
    let none = trailing_two (held rows pending) idle more (behind_word w _ word more (ap (walked rules [] w) is ∙ behind_dashes (held rows pending) idle 2) e) in
    let last : true ≡ false = subst (λ t. bytes_eq t dashes ≡ false) is (subst (λ ws. last_is_dashes (word ∷ ws) ≡ false) none ends) in
    cc last

refuses_second : (rows : List Row) (pending : Pending) (word : Text) → Plain word → turn_fault shape [] (at (held rows pending) idle 2 false) word ≡ kind.UnknownArgument ∷ []
refuses_second rows pending word h = rw (h.apart, h.long, h.short) refl

-- behind the file and the option nothing stands
full : (rows : List Row) (pending : Pending) → has_settings (rows_of rows pending) ≡ true → (words : List Text) → list_all printable words ≡ true
    → last_is_dashes words ≡ false → faults (at (held rows pending) idle 2 false) words ≡ [] → words ≡ []
full rows pending has [] p ends e = refl
full rows pending has (word ∷ more) p ends e =
    let w = at (held rows pending) idle 2 false in
    let at_it = at_word w word more e in
    elim (class_of word (and_parts _ _ p).0) [
      | is_dashes is ↦ absurd (ends_there rows pending word more is e ends)
      | is_flag is ↦ absurd (flag_again false rows pending has more (and_parts _ _ p).1 (subst (λ t. faults w (t ∷ more) ≡ []) is e))
      | is_joined v is ↦ absurd (joined_again 2 rows pending has v (subst (λ t. turn_fault shape [] w t ≡ []) is at_it))
      | is_long l ↦ absurd (refused _ _ (refuses_long rows pending idle 2 word l) at_it)
      | is_short s ↦ absurd (refused _ _ (refuses_short rows pending idle 2 word s) at_it)
      | is_plain h ↦ absurd (refused _ _ (refuses_second rows pending word h) at_it)
    ]

-- ---- the forms of the words

-- a file, alone or behind two minus signs
pub data FileWords (words : List Text) : Type 0 where
  alone : (f : Text) → Plain f → words ≡ f ∷ [] → FileWords words
  behind : (f : Text) → words ≡ dashes ∷ f ∷ [] → FileWords words

-- the option, if it stands
pub data OptionWords (words : List Text) : Type 0 where
  absent : words ≡ [] → OptionWords words
  apart : (v : Text) → Plain v → words ≡ flag ∷ v ∷ [] → OptionWords words
  in_one : (v : Text) → words ≡ joined v ∷ [] → OptionWords words

pub data FormWords (words : List Text) : Type 0 where
  file_alone : FileWords words → FormWords words
  after_two_words : (v : Text) → Plain v → (more : List Text) → words ≡ flag ∷ v ∷ more → FileWords more → FormWords words
  after_one_word : (v : Text) → (more : List Text) → words ≡ joined v ∷ more → FileWords more → FormWords words
  before_option : (f : Text) → Plain f → (more : List Text) → words ≡ f ∷ more → OptionWords more → FormWords words

behind_two : (h : Held) (waiting : Waiting) (f : Text) → walked rules [] (at h waiting 1 true) f ≡ at (positional_held rules file f h) idle 2 true
unfolding walked
behind_two h waiting f = refl

-- behind two minus signs the file stands
one_file : (h : Held) (words : List Text) → (faults (at h idle 1 true) [] ≡ [] → ⊥) → faults (at h idle 1 true) words ≡ [] → (f : Text) × (words ≡ f ∷ [])
one_file h [] missing e = absurd (missing e)
one_file h (f ∷ more) missing e = (f, ap (λ ws. f ∷ ws) (trailing_two _ idle more (behind_word (at h idle 1 true) _ f more (behind_two h idle f) e)))

takes_file : (rows : List Row) (pending : Pending) (f : Text) → Plain f
    → walked rules [] (at (held rows pending) idle 1 false) f ≡ at (positional_held rules file f (held rows pending)) idle 2 false
unfolding walked
takes_file rows pending f h = rw (h.apart, h.long, h.short) refl

-- the file is missing, where the words end here
abbrev Missing : List Row → Pending → Type 0
Missing rows pending = (trailing : Bool) → faults (at (held rows pending) idle 1 trailing) [] ≡ [] → ⊥

ends_more : (word : Text) (more : List Text) → last_is_dashes (word ∷ more) ≡ false → last_is_dashes more ≡ false
ends_more word [] h = refl
ends_more word (next ∷ more) h = h

-- behind the option the file stands
file_words : (rows : List Row) (pending : Pending) → has_settings (rows_of rows pending) ≡ true → Missing rows pending
    → ((f : Text) → positional_held rules file f (held rows pending) ≡ held (rows_of rows pending) (with_file f))
    → ((f : Text) → has_settings (rows_of (rows_of rows pending) (with_file f)) ≡ true)
    → (words : List Text) → list_all printable words ≡ true → last_is_dashes words ≡ false
    → faults (at (held rows pending) idle 1 false) words ≡ [] → FileWords words
file_words rows pending has missing place_of has_then [] p ends e = absurd (missing false e)
file_words rows pending has missing place_of has_then (word ∷ more) p ends e =
    let w = at (held rows pending) idle 1 false in
    let at_it = at_word w word more e in
    elim (class_of word (and_parts _ _ p).0) [
      | is_dashes is ↦
          let (f, one) = one_file (held rows pending) more (missing true) (behind_word w _ word more (ap (walked rules [] w) is ∙ behind_dashes (held rows pending) idle 1) e) in
          behind f (ap₂ (λ t ws. t ∷ ws) is one)
      | is_flag is ↦ absurd (flag_again true rows pending has more (and_parts _ _ p).1 (subst (λ t. faults w (t ∷ more) ≡ []) is e))
      | is_joined v is ↦ absurd (joined_again 1 rows pending has v (subst (λ t. turn_fault shape [] w t ≡ []) is at_it))
      | is_long l ↦ absurd (refused _ _ (refuses_long rows pending idle 1 word l) at_it)
      | is_short s ↦ absurd (refused _ _ (refuses_short rows pending idle 1 word s) at_it)
      | is_plain h ↦
          let next = behind_word w _ word more (takes_file rows pending word h ∙ ap (λ k. at k idle 2 false) (place_of word)) e in
          alone word h (ap (λ ws. word ∷ ws) (full (rows_of rows pending) (with_file word) (has_then word) more (and_parts _ _ p).1 (ends_more word more ends) next))
    ]

missing_at_start : Missing [] None
unfolding walk_fault defaults_fault
missing_at_start true e = never e
missing_at_start false e = never e

missing_behind_one : (v : Text) → Missing (settings_row v ∷ []) None
unfolding walk_fault defaults_fault
missing_behind_one v true e = never e
missing_behind_one v false e = never e

missing_behind_two : (v : Text) → Missing [] (with_values (v ∷ []))
unfolding walk_fault defaults_fault
missing_behind_two v true e = never e
missing_behind_two v false e = never e

behind_joined : (v : Text) → walked rules [] start (joined v) ≡ at (held (settings_row v ∷ []) None) idle 1 false
unfolding walked
behind_joined v = refl

behind_file_joined : (f v : Text) → walked rules [] (at (held [] (with_file f)) idle 2 false) (joined v) ≡ at (held (file_row f ∷ settings_row v ∷ []) None) idle 2 false
unfolding walked
behind_file_joined f v = refl

option_words : (f : Text) (words : List Text) → list_all printable words ≡ true → last_is_dashes words ≡ false
    → faults (at (held [] (with_file f)) idle 2 false) words ≡ [] → OptionWords words
option_words f [] p ends e = absent refl
option_words f (word ∷ more) p ends e =
    let w = at (held [] (with_file f)) idle 2 false in
    let at_it = at_word w word more e in
    elim (class_of word (and_parts _ _ p).0) [
      | is_dashes is ↦ absurd (ends_there [] (with_file f) word more is e ends)
      | is_flag is ↦
          let (v, h, rest) = wants_value false (file_row f ∷ []) more (and_parts _ _ p).1
          (behind_word w _ word more (ap (walked rules [] w) is ∙ behind_flag [] (with_file f) 2) e) in
          let none = full (file_row f ∷ []) (with_values (v ∷ [])) refl rest.0 (and_parts _ _ (subst (λ ws. list_all printable ws ≡ true) rest.1 (and_parts _ _ p).1)).1
          (ends_more v rest.0 (subst (λ ws. last_is_dashes ws ≡ false) rest.1 (ends_more word more ends))) rest.2 in
          apart v h (ap₂ (λ t ws. t ∷ ws) is (rest.1 ∙ ap (λ ws. v ∷ ws) none))
      | is_joined v is ↦
          let none = full (file_row f ∷ settings_row v ∷ []) None refl more (and_parts _ _ p).1 (ends_more word more ends)
          (behind_word w _ word more (ap (walked rules [] w) is ∙ behind_file_joined f v) e) in
          in_one v (ap₂ (λ t ws. t ∷ ws) is none)
      | is_long l ↦ absurd (refused _ _ (refuses_long [] (with_file f) idle 2 word l) at_it)
      | is_short s ↦ absurd (refused _ _ (refuses_short [] (with_file f) idle 2 word s) at_it)
      | is_plain h ↦ absurd (refused _ _ (refuses_second [] (with_file f) word h) at_it)
    ]

-- words without a fault are of one of the forms, unless they end in two minus signs
pub form_words : (words : List Text) → list_all printable words ≡ true → last_is_dashes words ≡ false → faults start words ≡ [] → FormWords words
form_words [] p ends e = absurd (missing_at_start false e)
form_words (word ∷ more) p ends e =
    let at_it = at_word start word more e in
    elim (class_of word (and_parts _ _ p).0) [
      | is_dashes is ↦
          let (f, one) = one_file (held [] None) more (missing_at_start true) (behind_word start _ word more (ap (walked rules [] start) is ∙ behind_dashes (held [] None) idle 1) e) in
          file_alone (behind f (ap₂ (λ t ws. t ∷ ws) is one))
      | is_flag is ↦
          let (v, h, rest) = wants_value true [] more (and_parts _ _ p).1 (behind_word start _ word more (ap (walked rules [] start) is ∙ behind_flag [] None 1) e) in
          let left = file_words [] (with_values (v ∷ [])) refl (missing_behind_two v) (λ f. refl) (λ f. refl) rest.0
          (and_parts _ _ (subst (λ ws. list_all printable ws ≡ true) rest.1 (and_parts _ _ p).1)).1
          (ends_more v rest.0 (subst (λ ws. last_is_dashes ws ≡ false) rest.1 (ends_more word more ends))) rest.2 in
          after_two_words v h rest.0 (ap₂ (λ t ws. t ∷ ws) is rest.1) left
      | is_joined v is ↦
          let left = file_words (settings_row v ∷ []) None refl (missing_behind_one v) (λ f. refl) (λ f. refl) more (and_parts _ _ p).1 (ends_more word more ends)
          (behind_word start _ word more (ap (walked rules [] start) is ∙ behind_joined v) e) in
          after_one_word v more (ap (λ t. t ∷ more) is) left
      | is_long l ↦ absurd (refused _ _ (refuses_long [] None idle 1 word l) at_it)
      | is_short s ↦ absurd (refused _ _ (refuses_short [] None idle 1 word s) at_it)
      | is_plain h ↦
          let left = option_words word more (and_parts _ _ p).1 (ends_more word more ends) (behind_word start _ word more (takes_file [] None word h) e) in
          before_option word h more refl left
    ]

-- ---- what words of a form give

abbrev pub file_of : {words : List Text} → FileWords words → Text
file_of (alone f h e) = f
file_of (behind f e) = f

abbrev pub settings_of : {words : List Text} → OptionWords words → Option Text
settings_of (absent e) = None
settings_of (apart v h e) = Some v
settings_of (in_one v e) = Some v

abbrev pub file_in : {words : List Text} → FormWords words → Text
file_in (file_alone f) = file_of f
file_in (after_two_words v h more e f) = file_of f
file_in (after_one_word v more e f) = file_of f
file_in (before_option f h more e o) = f

abbrev pub settings_in : {words : List Text} → FormWords words → Option Text
settings_in (file_alone f) = None
settings_in (after_two_words v h more e f) = Some v
settings_in (after_one_word v more e f) = Some v
settings_in (before_option f h more e o) = settings_of o

-- the words have no fault from a state on, and give this file and these settings
pub record Gives (w : Walk) (words : List Text) (f : Text) (s : Option Text) : Type 0 where
  pub faultless : faults w words ≡ []
  pub file_is : first_of (codes "FILE") (finished rules (after w words).held) ≡ Some f
  pub settings_are : first_of (codes "settings") (finished rules (after w words).held) ≡ s

gives_behind : (w next : Walk) (word : Text) (more : List Text) (f : Text) (s : Option Text) → turn_fault shape [] w word ≡ [] → walked rules [] w word ≡ next
    → Gives next more f s → Gives w (word ∷ more) f s
gives_behind w next word more f s none is g = record {
  faultless = one_word w word more ∙ ap₂ (λ t x. or_else t (faults x more)) none is ∙ g.faultless;
  file_is = ap (λ x. first_of (codes "FILE") (finished rules (after x more).held)) is ∙ g.file_is;
  settings_are = ap (λ x. first_of (codes "settings") (finished rules (after x more).held)) is ∙ g.settings_are;
}

no_turn_fault : (rows : List Row) (pending : Pending) (f : Text) → Plain f → positional_fault rules false file (held rows pending) ≡ []
    → turn_fault shape [] (at (held rows pending) idle 1 false) f ≡ []
no_turn_fault rows pending f h none = rw (h.apart, h.long, h.short) none

-- a file behind a state
gives_file : (rows : List Row) (pending : Pending) (s : Option Text) → positional_fault rules false file (held rows pending) ≡ []
    → ((f : Text) → positional_held rules file f (held rows pending) ≡ held (rows_of rows pending) (with_file f))
    → ((f : Text) (trailing : Bool) → Gives (at (held (rows_of rows pending) (with_file f)) idle 2 trailing) [] f s)
    → (words : List Text) → (fw : FileWords words) → Gives (at (held rows pending) idle 1 false) words (file_of fw) s
gives_file rows pending s none place_of ends words (alone f h e) =
    subst (λ ws. Gives (at (held rows pending) idle 1 false) ws f s) (sym e)
    (gives_behind _ _ f [] f s (no_turn_fault rows pending f h none) (takes_file rows pending f h ∙ ap (λ k. at k idle 2 false) (place_of f)) (ends f false))
gives_file rows pending s none place_of ends words (behind f e) =
    subst (λ ws. Gives (at (held rows pending) idle 1 false) ws f s) (sym e)
    (gives_behind _ _ dashes (f ∷ []) f s refl (behind_dashes (held rows pending) idle 1)
    (gives_behind (at (held rows pending) idle 1 true) _ f [] f s none (behind_two (held rows pending) idle f ∙ ap (λ k. at k idle 2 true) (place_of f)) (ends f true)))

ends_alone : (f : Text) (trailing : Bool) → Gives (at (held [] (with_file f)) idle 2 trailing) [] f None
unfolding walk_fault defaults_fault
ends_alone f trailing = record { faultless = refl; file_is = refl; settings_are = refl }

ends_both : (v f : Text) (trailing : Bool) → Gives (at (held (settings_row v ∷ []) (with_file f)) idle 2 trailing) [] f (Some v)
unfolding walk_fault defaults_fault
ends_both v f trailing = record { faultless = refl; file_is = refl; settings_are = refl }

gives_option : (f : Text) (words : List Text) → (o : OptionWords words) → Gives (at (held [] (with_file f)) idle 2 false) words f (settings_of o)
unfolding walk_fault defaults_fault
gives_option f words (absent e) = subst (λ ws. Gives (at (held [] (with_file f)) idle 2 false) ws f None) (sym e) (ends_alone f false)
gives_option f words (apart v h e) =
    subst (λ ws. Gives (at (held [] (with_file f)) idle 2 false) ws f (Some v)) (sym e)
    (gives_behind _ _ flag (v ∷ []) f (Some v) refl (behind_flag [] (with_file f) 2)
    (gives_behind _ _ v [] f (Some v) (rw (h.apart, h.long, h.short) refl) (takes_value false (file_row f ∷ []) v h)
    (record { faultless = refl; file_is = refl; settings_are = refl })))
gives_option f words (in_one v e) =
    subst (λ ws. Gives (at (held [] (with_file f)) idle 2 false) ws f (Some v)) (sym e)
    (gives_behind _ _ (joined v) [] f (Some v) refl (behind_file_joined f v) (record { faultless = refl; file_is = refl; settings_are = refl }))

pub gives : (words : List Text) → (form : FormWords words) → Gives start words (file_in form) (settings_in form)
gives words (file_alone fw) = gives_file [] None None refl (λ f. refl) ends_alone words fw
gives words (after_two_words v h more e fw) =
    subst (λ ws. Gives start ws (file_of fw) (Some v)) (sym e)
    (gives_behind _ _ flag (v ∷ more) (file_of fw) (Some v) refl (behind_flag [] None 1)
    (gives_behind _ _ v more (file_of fw) (Some v) (rw (h.apart, h.long, h.short) refl) (takes_value true [] v h)
    (gives_file [] (with_values (v ∷ [])) (Some v) refl (λ f. refl) (ends_both v) more fw)))
gives words (after_one_word v more e fw) =
    subst (λ ws. Gives start ws (file_of fw) (Some v)) (sym e)
    (gives_behind _ _ (joined v) more (file_of fw) (Some v) refl (behind_joined v)
    (gives_file (settings_row v ∷ []) None (Some v) refl (λ f. refl) (ends_both v) more fw))
gives words (before_option f h more e o) =
    subst (λ ws. Gives start ws f (settings_of o)) (sym e)
    (gives_behind _ _ f more f (settings_of o) (no_turn_fault [] None f h refl) (takes_file [] None f h) (gives_option f more o))
