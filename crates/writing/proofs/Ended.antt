-- A key, a value and the byte that ends it, put one behind the other from the start of a buffer.
-- Assumes nothing.
use Prim.Native.Nat.{ℕ, ◌+◌, ◌-◌, ◌^◌, ◌≤◌, ◌<◌}
use mathlib.Core.Path.{◌≡◌, sym, ◌∙◌, ap}
use mathlib.Core.List.{List, [], ◌∷◌, ◌++◌, append_assoc, append-nil}
use mathlib.Core.Logic.{⊎_elim}
use native.Mathlib.Nat.{zero-add}
use native.Mathlib.Omega.{arith}
use mir.Syntax.{w64}
use mir.Val.{Fits}
use lib.ListN.{length, take, drop, set, take-append-drop, length-append}
use lib.Seq.{drop_at, drop-length, length-take-le}
use Rattle.laws.proofs.Order.{lt_or_le}
use Rattle.writing.specs.Writing.{pasted, put_length, buffer_of}
use Rattle.writing.proofs.Writing.{pasted_start, granted_length, granted_buffer, refused_length, refused_buffer}
use Rattle.writing.proofs.Rest.{pasted_after, pasted_long, pasted_byte, part_of, with_part, part_size, part_pasted}

-- A text that is put into a part of a buffer stands over the buffer from there on.
part_put : (d : List ℕ) (at k : ℕ) → at + k ≤ length d → (t : List ℕ) → length t ≤ k → with_part d at k (buffer_of (part_of d at k) t) ≡ pasted d at t
part_put d at k h t g =
    let s = part_size d at k h in
    rw (← granted_buffer (part_of d at k) t (omega arith)) (part_pasted d at k h t g)

-- One that is as long as the part is all that it holds.
filled : (x t : List ℕ) → length x ≡ length t → buffer_of x t ≡ t
filled x t e = rw (← granted_buffer x t (omega arith), ← pasted_start x t, ← e, drop-length x) (append-nil t)

-- A text over the start of a buffer, before one that stands right behind it, is the two as one text.
pasted_before : (d key value : List ℕ) → length key ≤ length d → pasted (pasted d (length key) value) 0 key ≡ pasted d 0 (key ++ value)
unfolding pasted
pasted_before d key value h =
    let behind : List ℕ = drop (length key + length value) d in
    rw (
      zero-add (length key),
      append_assoc (take (length key) d) value behind,
      drop_at (take (length key) d) (value ++ behind) (length key) (length-take-le (length key) d h),
      length-append key value,
      zero-add (length key + length value),
    )
    (sym (append_assoc key value behind))

module _ (d key value : List ℕ) (end : ℕ) where
  abbrev text : List ℕ
  text = key ++ value ++ (end ∷ [])

  text_long : length text ≡ length key + length value + 1
  text_long = simp length-append (omega arith)

  -- Without room for the byte behind them nothing is put.
  module _ (h : length d ≤ length key + length value) where
    pub no_room_length : 0 ≡ put_length d text
    no_room_length = let l = text_long in refused_length d text (omega arith)

    pub no_room_buffer : d ≡ buffer_of d text
    no_room_buffer = let l = text_long in refused_buffer d text (omega arith)

  -- So it is where not even the key has room.
  module _ (h : length d ≤ length key) where
    pub short_length : 0 ≡ put_length d text
    short_length = no_room_length (omega arith)

    pub short_buffer : d ≡ buffer_of d text
    short_buffer = no_room_buffer (omega arith)

  -- The key over the buffer's start, the value behind it and then the last byte are the text.
  ended : {size : ℕ} → size ≡ length value → length key + size < length d → {after : List ℕ} → after ≡ pasted d 0 (key ++ value) → set after (length key + size) end ≡ buffer_of d text
  ended {size} e h {after} one =
      let l = text_long in
      let long = ap length one ∙ pasted_long d 0 (key ++ value) (simp length-append (omega arith)) in
      let at : length key + size ≡ 0 + length (key ++ value) = simp length-append (omega arith) in
      pasted_byte after (length key + size) end (omega arith)
      ∙ rw (one, at) (pasted_after d 0 (key ++ value) (end ∷ []) (simp length-append (omega arith)))
      ∙ granted_buffer d text (omega arith)

  -- The key fills a part that is as long as it is.
  key_filled : (x : List ℕ) {k : List ℕ} → length key ≤ length x → k ≡ buffer_of (take (length key) x) key → k ++ drop (length key) x ≡ pasted x 0 key
  key_filled x {k} h f = rw (f, filled (take (length key) x) key (length-take-le (length key) x h)) (pasted_start x key)

  module _ {size : ℕ} (e : size ≡ length value) where
    module _ (h : length key + size < length d) where
      pub ended_length : length key + size + 1 ≡ put_length d text
      ended_length = let l = text_long in omega (arith, granted_length d text (omega arith))

      -- The value fills a part that is as long as it is.
      pub ended_part : {k part : List ℕ} → k ≡ buffer_of (take (length key) d) key
          → part ≡ buffer_of (part_of (k ++ drop (length key) d) (length key) (length key + size - length key)) value
          → set (with_part (k ++ drop (length key) d) (length key) (length key + size - length key) part) (length key + size) end ≡ buffer_of d text
      ended_part {k} {part} f g =
          let n : length key + size - length key ≡ length value = omega arith in
          let keyed = key_filled d (omega arith) f in
          let long = pasted_long d 0 key (omega arith) in
          let held = part_put (pasted d 0 key) (length key) (length value) (omega arith) value (omega arith) in
          let joined : pasted (pasted d 0 key) (length key) value ≡ pasted d 0 (key ++ value) = rw (← zero-add (length key)) (pasted_after d 0 key value (omega arith)) in
          ended e h (rw (g, keyed, n) (held ∙ joined))

  -- The value is put first, between the room for the key and that for the last byte.
  module _ (h : length key < length d) where
    abbrev between : ℕ
    between = length d - 1 - length key

    between_size : length (part_of d (length key) between) ≡ between
    between_size = part_size d (length key) between (omega arith)

    module _ {r : ℕ} (a : r ≡ put_length (part_of d (length key) between) value) (some : 1 ≤ length value) where
      -- Where none of it was put there is no room for it,
      unput : r ≡ 0 → length d ≤ length key + length value
      unput z =
          let s = between_size in
          ⊎_elim
          (λ (l : between < length value). omega arith)
          (λ (m : length value ≤ between). let e : r ≡ length value = a ∙ sym (granted_length (part_of d (length key) between) value (omega arith)) in absurd (omega arith))
          (lt_or_le between (length value))

      -- and where some was, all of it was.
      valued : (r ≡ 0 → ⊥) → (r ≡ length value) × (length value ≤ between)
      valued z =
          let s = between_size in
          ⊎_elim
          (λ (l : between < length value). absurd (z (a ∙ sym (refused_length (part_of d (length key) between) value (omega arith)))))
          (λ (m : length value ≤ between). (a ∙ sym (granted_length (part_of d (length key) between) value (omega arith)), m))
          (lt_or_le between (length value))

      pub unput_length : r ≡ 0 → 0 ≡ put_length d text
      unput_length z = no_room_length (unput z)

      module _ (z : r ≡ 0 → ⊥) where
        pub put_within : length key + r < length d
        put_within = let v = valued z in omega arith

        pub put_fits : length d < 2 ^ 64 → Fits w64 (length key + r)
        put_fits h = let w = put_within in record { fits = omega arith }

        pub end_fits : length d < 2 ^ 64 → Fits w64 (length key + r + 1)
        end_fits h = let w = put_within in record { fits = omega arith }

        pub put_length_told : length key + r + 1 ≡ put_length d text
        put_length_told = let v = valued z in let l = text_long in omega (arith, granted_length d text (omega arith))

      module _ {part : List ℕ} (b : part ≡ buffer_of (part_of d (length key) between) value) where
        abbrev after : List ℕ
        after = with_part d (length key) between part

        pub unput_buffer : r ≡ 0 → after ≡ buffer_of d text
        unput_buffer z =
            let u = unput z in
            let s = between_size in
            rw (b, ← refused_buffer (part_of d (length key) between) value (omega arith), take-append-drop between (drop (length key) d), take-append-drop (length key) d)
            (no_room_buffer u)

        module _ (z : r ≡ 0 → ⊥) where
          put : after ≡ pasted d (length key) value
          put = rw b (part_put d (length key) between (omega arith) value (valued z).1)

          long : length after ≡ length d
          long = let v = valued z in rw put (pasted_long d (length key) value (omega arith))

          pub put_inside : {k : List ℕ} → k ≡ buffer_of (take (length key) after) key → length key + r < length (k ++ drop (length key) after)
          put_inside {k} f =
              let l = long in
              let w = put_within z in
              let e = ap length (key_filled after (omega arith) f) in
              let m = pasted_long after 0 key (omega arith) in
              omega arith

          pub put_buffer_told : {k : List ℕ} → k ≡ buffer_of (take (length key) after) key → set (k ++ drop (length key) after) (length key + r) end ≡ buffer_of d text
          put_buffer_told {k} f =
              let l = long in
              let keyed = key_filled after (omega arith) f in
              let joined : pasted after 0 key ≡ pasted d 0 (key ++ value) = rw put (pasted_before d key value (omega arith)) in
              ended (valued z).0 (put_within z) (keyed ∙ joined)
