-- The parts of a text and the text: the byte that one of them has, and parts put together again.
use Prim.Native.Nat.{ℕ}
use mathlib.Core.Path.{◌≡◌, refl, sym, ap, ap₂, ◌∙◌}
use mathlib.Core.Bool.{Bool, true, false, not, cond, ◌&&◌}
use mathlib.Core.List.{List, [], ◌∷◌, ◌++◌}
use lib.Dec.{eqb}
use borrow.Author.Tests.{eq-eqb, eqb-true, not-true}
use Rattle.std.proofs.lemmas.Bool.{and_parts}
use Rattle.basis_lines.specs.Fields.{before, parts}
use Rattle.basis_lines.proofs.FieldLaws.{first_of_parts}

-- Parts of which one has the byte b.
pub data OneHas (b : ℕ) : List (List ℕ) → Type 0 where
  first : (front back : List ℕ) (ps : List (List ℕ)) → OneHas b ((front ++ (b ∷ back)) ∷ ps)
  later : {p : List ℕ} {ps : List (List ℕ)} → OneHas b ps → OneHas b (p ∷ ps)

before_has : (b : ℕ) (ps : List (List ℕ)) → OneHas b (before b ps)
before_has b [] = first [] [] []
before_has b (p ∷ ps) = first [] p ps

before_keeps : (x : ℕ) {b : ℕ} {ps : List (List ℕ)} → OneHas b ps → OneHas b (before x ps)
before_keeps x (first front back ps) = first (x ∷ front) back ps
before_keeps x (later has) = later has

-- A byte of a text that is no separator stands in one of the parts.
pub byte_in_parts : (separator : ℕ) (front : List ℕ) (b : ℕ) (back : List ℕ) → eqb b separator ≡ false →
    OneHas b (parts separator (front ++ (b ∷ back)))
unfolding parts
byte_in_parts separator [] b back e = rw e (before_has b (parts separator back))
byte_in_parts separator (x ∷ front) b back e = go (eqb x separator) (byte_in_parts separator front b back e)
  where
    go : (test : Bool) {ps : List (List ℕ)} → OneHas b ps → OneHas b (cond test ([] ∷ ps) (before x ps))
    go true has = later has
    go false has = before_keeps x has

-- Parts put together again, the separator between each two.
unfoldable pub joined : ℕ → List (List ℕ) → List ℕ
joined separator [] = []
joined separator (p ∷ []) = p
joined separator (p ∷ q ∷ ps) = p ++ (separator ∷ joined separator (q ∷ ps))

-- Whether no byte of a text is the separator, and whether that is so of every part.
abbrev pub lacks : ℕ → List ℕ → Bool
lacks separator [] = true
lacks separator (b ∷ text) = not (eqb b separator) && lacks separator text

abbrev pub all_lack : ℕ → List (List ℕ) → Bool
all_lack separator [] = true
all_lack separator (p ∷ ps) = lacks separator p && all_lack separator ps

-- The parts of a text, put together, are the text.
join_before : (separator b : ℕ) (ps : List (List ℕ)) → joined separator (before b ps) ≡ b ∷ joined separator ps
unfolding joined
join_before separator b [] = refl
join_before separator b (p ∷ []) = refl
join_before separator b (p ∷ q ∷ ps) = refl

pub joined_parts : (separator : ℕ) (text : List ℕ) → joined separator (parts separator text) ≡ text
unfolding parts joined
joined_parts separator [] = refl
joined_parts separator (b ∷ text) = go (eqb b separator) refl (joined_parts separator text)
  where
    go : (test : Bool) → eqb b separator ≡ test → joined separator (parts separator text) ≡ text →
        joined separator (cond test ([] ∷ parts separator text) (before b (parts separator text))) ≡ b ∷ text
    go true e whole =
        let is = first_of_parts separator text in
        rw is (ap₂ ◌∷◌ (sym (eqb-true b separator e)) (rw is at whole))
    go false e whole = join_before separator b (parts separator text) ∙ ap (λ (t : List ℕ). b ∷ t) whole

-- The parts of parts put together, none of which has the separator, are those.
lacks_first : (separator b : ℕ) (text : List ℕ) → lacks separator (b ∷ text) ≡ true →
    (eqb b separator ≡ false) × (lacks separator text ≡ true)
lacks_first separator b text e =
    let both = and_parts (not (eqb b separator)) (lacks separator text) e in
    (not-true (eqb b separator) both.0, both.1)

lone_part : (separator : ℕ) (text : List ℕ) → lacks separator text ≡ true → parts separator text ≡ text ∷ []
unfolding parts
lone_part separator [] e = refl
lone_part separator (b ∷ text) e =
    let (other, rest) = lacks_first separator b text e in rw (other, lone_part separator text rest)

pub part_and_rest : (separator : ℕ) (text rest : List ℕ) → lacks separator text ≡ true →
    parts separator (text ++ (separator ∷ rest)) ≡ text ∷ parts separator rest
unfolding parts
part_and_rest separator [] rest e = rw (eq-eqb separator separator refl)
part_and_rest separator (b ∷ text) rest e =
    let (other, lack) = lacks_first separator b text e in rw (other, part_and_rest separator text rest lack)

pub parts_joined : (separator : ℕ) (p : List ℕ) (ps : List (List ℕ)) → all_lack separator (p ∷ ps) ≡ true →
    parts separator (joined separator (p ∷ ps)) ≡ p ∷ ps
unfolding joined
parts_joined separator p [] e = lone_part separator p (and_parts (lacks separator p) true e).0
parts_joined separator p (q ∷ ps) e =
    let (lack, all) = and_parts (lacks separator p) (all_lack separator (q ∷ ps)) e in
    part_and_rest separator p (joined separator (q ∷ ps)) lack
    ∙ ap (λ (rest : List (List ℕ)). p ∷ rest) (parts_joined separator q ps all)
