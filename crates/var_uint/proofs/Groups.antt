-- The groups of a VarUInt that are still to be stored, and the byte that comes next.
-- By the digits in base 128. Assumes nothing.
use mathlib.Core.Path.{◌≡◌, refl, sym, ◌∙◌, ap}
use mathlib.Core.List.{List, [], ◌∷◌, ◌++◌, append-nil}
use Prim.Native.Nat.{ℕ, zero, suc, ◌+◌, ◌/◌, ◌%◌, ◌<◌}
use native.Mathlib.Nat.{zero-add}
use lib.ListN.{length, drop, get_or}
use lib.Seq.{drop-cons, drop-length, get_or_at, append_snoc}
use Rattle.encoding.specs.Digits.{low_digits, digits}
use Rattle.encoding.specs.Fields.{var_uint_bytes}
use Rattle.encoding.proofs.Digits.{length-low_digits}
use Rattle.encoding.proofs.Sizes.{length-var_uint}

-- the k groups of n, of which the last has the flag
unfoldable pub flagged : ℕ → ℕ → ℕ → List ℕ
flagged flag zero n = []
flagged flag (suc k) n = low_digits 128 k (n / 128) ++ ((flag + n % 128) ∷ [])

unflagged : (k n : ℕ) → flagged 0 k n ≡ low_digits 128 k n
unfolding flagged low_digits
unflagged zero n = refl
unflagged (suc k) n = ap (λ (x : ℕ). low_digits 128 k (n / 128) ++ (x ∷ [])) (zero-add (n % 128))

-- before the first store all groups are to come, with the end flag
pub all_to_come : (n size : ℕ) → size ≡ length (var_uint_bytes n) → flagged 0x80 size n ++ drop size (var_uint_bytes n) ≡ var_uint_bytes n
unfolding flagged var_uint_bytes digits
all_to_come n size e =
    ap (λ (k : ℕ). flagged 0x80 k n ++ drop k (var_uint_bytes n)) e
    ∙ (rw (drop-length (var_uint_bytes n), append-nil (flagged 0x80 (length (var_uint_bytes n)) n)) (ap (λ (k : ℕ). flagged 0x80 k n) (length-var_uint n)))

module _ (flag k rest : ℕ) (out : List ℕ) (e : flagged flag (suc k) rest ++ drop (suc k) out ≡ out) where
  parted : out ≡ low_digits 128 k (rest / 128) ++ ((flag + rest % 128) ∷ drop (suc k) out)
  unfolding flagged
  parted = sym e ∙ append_snoc (low_digits 128 k (rest / 128)) (flag + rest % 128) (drop (suc k) out)

  -- the byte that comes next
  pub next-byte : get_or out k 0 ≡ flag + rest % 128
  next-byte =
      ap (λ (l : List ℕ). get_or l k 0) parted
      ∙ get_or_at (low_digits 128 k (rest / 128)) (flag + rest % 128) (drop (suc k) out) 0 k (length-low_digits 128 k (rest / 128))

  -- and what is to come behind its store, without a flag
  pub less_to_come : k < length out → flagged 0 k (rest / 128) ++ drop k out ≡ out
  less_to_come h = rw (unflagged k (rest / 128), drop-cons out k 0 h, next-byte) (sym parted)
