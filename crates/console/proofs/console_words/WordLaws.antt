-- What clap makes of words of which none is a flag.
use Rattle.std.proofs.Common.{◌≡◌, ◌∙◌, ◌||◌, ⊎_elim, Bool, true, false, refl, sym, ap, ap₂, subst, List, [], ◌∷◌, Some, None, is_some, unwrap_or, map, codes, eqb-true, true≢false}
use Rattle.std.specs.Borrow.{Bor}
use Rattle.std.specs.List.{list_any}
use Rattle.std.specs.Str.{bytes_eq}
use Rattle.std.proofs.lemmas.Slice.Eq.{bytes_eq-Decides}
use Rattle.clap.specs.Lexer.{long_of, short_of}
use Rattle.clap.specs.Words.{App, HasKind, HasMatchesOf, IsAmong, Kinds, Text, fault_of, first_of, first_value, found_of, is_simple, is_simple_and_free, kind_of, matches_of}
use Rattle.clap.specs.Kinds.{or_else}
use Rattle.clap.specs.Simple.{Shape, built, entered}
use Rattle.clap.specs.ValueTests.{accepts}
use Rattle.clap.specs.Walk.{Walk, finished, idle, nothing_held, settled, walk, walk_from, walked}
use Rattle.clap.specs.Faults.{check_fault, defaults_fault, entered_fault, settle_fault, turn_fault, walk_fault}
use Rattle.clap.specs.declared.builder.value_parser.ValueParser.TheVariants as vp
use Rattle.clap.specs.declared.error.Error.{Error}
use Rattle.clap.specs.declared.error.kind.ErrorKind.{ErrorKind}
use Rattle.clap.specs.declared.error.kind.ErrorKind.TheVariants as kind
use Rattle.clap.specs.declared.parser.matches.ArgMatches.{ArgMatches}
use Rattle.clap.proofs.OnLiterals.{clap_on_literals}
use Rattle.clap.proofs.WalkLemmas.{first_value-rows, list_any-map}
use Rattle.console.specs.console_words.Words.{order_named, order_of_name}
use Rattle.console.specs.console_words.Private.Words.{TakesOrders, is_flag, order_app}

-- ---- a word that is a flag orders nothing

flag_names_nothing : (word : Text) → is_flag word ≡ true → order_of_name word ≡ None
flag_names_nothing [] flag = absurd (true≢false (sym flag))
flag_names_nothing (byte ∷ rest) flag = subst (λ b. order_of_name (b ∷ rest) ≡ None) (sym (eqb-true byte 45 flag)) refl

or_false : (b : Bool) → (b || false) ≡ true → b ≡ true
or_false true e = refl
or_false false e = e

pub flag_orders_nothing : (words : List Text) → list_any is_flag words ≡ true → None ≡ order_named words
flag_orders_nothing [] flag = refl
flag_orders_nothing (word ∷ []) flag = sym (flag_names_nothing word (or_false (is_flag word) flag))
flag_orders_nothing (word ∷ next ∷ rest) flag = refl

-- ---- a word that is no flag is a value

none_first : (a b : Bool) → (a || b) ≡ false → a ≡ false
none_first true b e = e
none_first false b e = refl

none_behind : (a b : Bool) → (a || b) ≡ false → b ≡ false
none_behind true b e = absurd (true≢false e)
none_behind false b e = e

pub record IsPlainWord (word : Text) : Type 0 where
  pub no_end : bytes_eq word (45 ∷ 45 ∷ []) ≡ false
  pub no_long : long_of word ≡ None
  pub no_short : short_of word ≡ None

pub plain_word : (word : Text) → is_flag word ≡ false → IsPlainWord word
plain_word [] flag = record { no_end = refl; no_long = refl; no_short = refl }
plain_word (byte ∷ rest) flag = record {
  no_end = rw flag refl;
  no_long = rw flag refl;
  no_short = rw flag refl;
}

-- ---- where clap stands behind a word

module _ (names : Bor (List (Bor Text))) where
  abbrev pub app : App
  app = order_app names

  abbrev shape : Shape
  shape = (built app).top

  abbrev begun : Walk
  begun = walk_from nothing_held

  abbrev after_one : Text → Walk
  after_one word = record {
    held = record { rows = []; pending = Some (codes "command", word ∷ []); skip = 0 };
    waiting = idle;
    position = 2;
    is_trailing = false;
    stopped = None;
  }

  pub is_read_exactly : is_simple_and_free app ≡ true
  unfolding clap_on_literals
  is_read_exactly = refl

  pub is_simply_read : is_simple app ≡ true
  unfolding clap_on_literals
  is_simply_read = refl

  first_turn : (word : Text) → IsPlainWord word → turn_fault shape [] begun word ≡ []
  first_turn word plain = rw (plain.no_end, plain.no_long, plain.no_short) refl

  first_step : (word : Text) → IsPlainWord word → walked shape.rules [] begun word ≡ after_one word
  unfolding walked
  first_step word plain = rw (plain.no_end, plain.no_long, plain.no_short) refl

  second_turn : (before word : Text) → IsPlainWord word → turn_fault shape [] (after_one before) word ≡ kind.UnknownArgument ∷ []
  second_turn before word plain = rw (plain.no_end, plain.no_long, plain.no_short) refl

  -- ---- the faults

  no_word : fault_of app [] ≡ kind.MissingRequiredArgument ∷ []
  unfolding clap_on_literals
  no_word = refl

  -- what is found behind the walk
  abbrev behind : Walk → Kinds
  behind w = or_else (entered_fault (built app) w.stopped) (or_else (settle_fault shape.rules false w.held)
      (or_else (defaults_fault (settled shape.rules w.held).rows shape.rules)
      (check_fault shape (finished shape.rules w.held) (is_some (entered (built app) w.stopped)))))

  accepted : (word : Text) → accepts false (vp.Names names) word ≡ true → behind (after_one word) ≡ []
  unfolding defaults_fault
  accepted word taken = rw taken refl

  one_word : (word : Text) → IsPlainWord word → accepts false (vp.Names names) word ≡ true → fault_of app (word ∷ []) ≡ []
  unfolding walk_fault
  one_word word plain taken = ap₂ (λ first rest. or_else (or_else first []) rest) (first_turn word plain) (ap behind (first_step word plain) ∙ accepted word taken)

  two_words : (first second : Text) (rest : List Text) → IsPlainWord first → IsPlainWord second → fault_of app (first ∷ second ∷ rest) ≡ kind.UnknownArgument ∷ []
  unfolding walk_fault
  two_words first second rest plain plain_too =
      let walks : walk_fault shape [] begun (first ∷ second ∷ rest) ≡ kind.UnknownArgument ∷ [] =
      ap₂ or_else (first_turn first plain) (ap (λ w. walk_fault shape [] w (second ∷ rest)) (first_step first plain)
      ∙ ap (λ k. or_else k (walk_fault shape [] (walked shape.rules [] (after_one first) second) rest)) (second_turn first second plain_too)) in
      ap (λ k. or_else k (behind (walk shape.rules [] nothing_held (first ∷ second ∷ rest)))) walks

  one_match : (word : Text) → IsPlainWord word → first_of (codes "command") (matches_of app (word ∷ [])) ≡ Some word
  one_match word plain = ap (λ w. first_of (codes "command") (finished shape.rules w.held)) (first_step word plain)

  -- ---- what an answer of clap says of the words

  abbrev has_some : Kinds → Bool
  has_some [] = false
  has_some (k ∷ ks) = true

  full : (k : ErrorKind) (ks : Kinds) → k ∷ ks ≡ [] → ⊥
  full k ks e = true≢false (ap has_some e)

  -- words that clap takes are one word, which it finds
  pub taken : (words : List Text) → list_any is_flag words ≡ false → fault_of app words ≡ []
      → (word : Text) × (words ≡ word ∷ []) × (first_of (codes "command") (matches_of app words) ≡ Some word)
  taken [] flags none = absurd (full _ [] (sym no_word ∙ none))
  taken (word ∷ []) flags none = (word, refl, one_match word (plain_word word (none_first _ _ flags)))
  taken (first ∷ second ∷ rest) flags none = absurd (full _ []
      (sym (two_words first second rest (plain_word first (none_first _ _ flags)) (plain_word second (none_first _ _ (none_behind (is_flag first) _ flags)))) ∙ none))

  module _ (listed : map (λ name. name.now) names.now ≡ codes "check" ∷ codes "play" ∷ []) where
    abbrev is_name : Text → Bool
    is_name word = list_any (λ name. bytes_eq name word) (codes "check" ∷ codes "play" ∷ [])

    by_names : (word : Text) → accepts false (vp.Names names) word ≡ is_name word
    by_names word = list_any-map (λ name. bytes_eq name word) (λ name. name.now) names.now ∙ ap (list_any (λ name. bytes_eq name word)) listed

    no_name : (word : Text) → is_name word ≡ false → order_of_name word ≡ None
    no_name word other = go (bytes_eq word (codes "check")) (bytes_eq word (codes "play")) refl refl
      where
        go : (check play : Bool) → bytes_eq word (codes "check") ≡ check → bytes_eq word (codes "play") ≡ play → order_of_name word ≡ None
        go true play e f = absurd (true≢false (sym (ap is_name ((bytes_eq-Decides word (codes "check")).0 e)) ∙ other))
        go false true e f = absurd (true≢false (sym (ap is_name ((bytes_eq-Decides word (codes "play")).0 f)) ∙ other))
        go false false e f = rw (e, f) refl

    -- words that clap refuses order nothing
    pub refused : (words : List Text) → list_any is_flag words ≡ false → (k : ErrorKind) → IsAmong k (fault_of app words) → order_named words ≡ None
    refused [] flags k among = refl
    refused (first ∷ second ∷ rest) flags k among = refl
    refused (word ∷ []) flags k among = go (is_name word) refl
      where
        go : (b : Bool) → is_name word ≡ b → order_of_name word ≡ None
        go false e = no_name word e
        go true e = absurd (subst (λ ks. IsAmong k ks) (one_word word (plain_word word (none_first _ _ flags)) (by_names word ∙ e)) among)

-- ---- the same of a command that takes the orders

-- an error other than want of memory says that the words order nothing
pub error_orders_nothing : (a : App) → TakesOrders a → (words : List Text) → list_any is_flag words ≡ false → (e : Error)
    → (is_simple_and_free a ≡ true → HasKind (fault_of a words) e) → (kind_of e ≡ kind.OutOfMemory → ⊥) → None ≡ order_named words
error_orders_nothing a orders words flags e kinds other =
    let found = subst (λ (b : App). HasKind (fault_of b words) e) orders.shape (kinds (ap is_simple_and_free orders.shape ∙ is_read_exactly orders.names)) in
    sym (⊎_elim (λ h. absurd (other h)) (λ among. refused orders.names orders.listed words flags (kind_of e) among) found)

-- matches have the one word
pub OneWord : List Text → ArgMatches → Type 0
OneWord words m = (word : Text) × (words ≡ word ∷ []) × (first_value (found_of m) (codes "command") ≡ Some word)

pub matches_one_word : (a : App) → TakesOrders a → (words : List Text) → list_any is_flag words ≡ false → (m : ArgMatches)
    → (is_simple_and_free a ≡ true → fault_of a words ≡ []) → HasMatchesOf a words m → OneWord words m
unfolding OneWord
matches_one_word a orders words flags m kinds has =
    let none = sym (ap (λ (b : App). fault_of b words) orders.shape) ∙ kinds (ap is_simple_and_free orders.shape ∙ is_read_exactly orders.names) in
    let found = taken orders.names words flags none in
    let rows = (has (ap is_simple orders.shape ∙ is_simply_read orders.names)).0 ∙ ap (λ (b : App). matches_of b words) orders.shape in
    (found.0, found.1, first_value-rows (found_of m) (codes "command") ∙ ap (first_of (codes "command")) rows ∙ found.2)

pub word_orders : (words : List Text) (m : ArgMatches) → OneWord words m → (name : Text) → Some name ≡ first_value (found_of m) (codes "command")
    → order_of_name name ≡ order_named words
unfolding OneWord
word_orders words m one name is = ap order_of_name (ap (λ o. unwrap_or o name) (is ∙ one.2)) ∙ sym (ap order_named one.1)

pub word_is_there : (words : List Text) (m : ArgMatches) → OneWord words m → None ≡ first_value (found_of m) (codes "command") → ⊥
unfolding OneWord
word_is_there words m one is = true≢false (sym (ap is_some (is ∙ one.2)))
