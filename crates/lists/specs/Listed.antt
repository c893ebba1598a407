-- What `node_words` leaves, and what that tells the one who hands the entries out.
use Rattle.std.specs.Prelude.{◌≡◌, refl, cond, List, ◌++◌, map, ℕ, ◌≤◌, length, take, drop, ltb}
use Rattle.std.proofs.Common.{sym, ◌∙◌, arith, take_at, ltb-false}
use Rattle.std.proofs.lemmas.List.{length-map}
use Rattle.basis.specs.Members.{split}
use Rattle.lists.specs.Entry.{word_of, Narrows}
use Rattle.lists.specs.declared.entries.NodeEntry.{NodeEntry}
use Rattle.lists.specs.declared.nodes.Counted.{Counted}
use Rattle.lists.specs.Nodes.{Nodes, entered, denied, counted_by, listed_by}

-- the entries' words from place 0 on; the words behind stay
abbrev pub words_over : List NodeEntry → List ℕ → List ℕ
words_over es l = map word_of es ++ drop (length es) l

-- r is the answer about the nodes X in a list of `room` entries, and ws what became of the words l: both are known from X, room and
-- l. There are at most 128 entries, and each field keeps to its width.
pub record Listed (X : Nodes) (room : ℕ) (l : List ℕ) (r : Counted) (ws : List ℕ) : Type 0 where
  pub counted : r ≡ counted_by X room
  pub written : ws ≡ words_over (listed_by X room) l
  pub few : r.count ≤ 128
  pub narrow : Narrows (listed_by X room)

-- two results that it allows are equal
pub listed_one : (X : Nodes) (room : ℕ) (l : List ℕ) (r q : Counted) (ws vs : List ℕ) → Listed X room l r ws → Listed X room l q vs → (r ≡ q) × (ws ≡ vs)
listed_one X room l r q ws vs L M = (L.counted ∙ sym M.counted, L.written ∙ sym M.written)

counted_many : (X : Nodes) (room : ℕ) → length (listed_by X room) ≡ (counted_by X room).count
counted_many (denied k p) room = refl
counted_many (entered es) room = split (ltb room (length es)) (λ t. rw (t, cond)) (λ t. rw (t, cond))

counted_in : (X : Nodes) (room : ℕ) → (counted_by X room).count ≤ room
counted_in (denied k p) room = omega arith
counted_in (entered es) room =
    split (ltb room (length es)) (λ t. rw (t, cond) (omega arith)) (λ t. rw (t, cond) (ltb-false room (length es) t))

module _ (X : Nodes) (room : ℕ) (l : List ℕ) (r : Counted) (ws : List ℕ) (L : Listed X room l r ws) where
  pub as_many : length (listed_by X room) ≡ r.count
  as_many = rw L.counted (counted_many X room)

  pub in_room : r.count ≤ room
  in_room = rw L.counted (counted_in X room)

  pub packed : take r.count ws ≡ map word_of (listed_by X room)
  packed =
      rw L.written
      (take_at (map word_of (listed_by X room)) (drop (length (listed_by X room)) l) r.count (length-map (listed_by X room) word_of ∙ as_many))
