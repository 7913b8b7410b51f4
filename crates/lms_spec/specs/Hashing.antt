-- The bytes that the hashes of a chain are over, and the constants that keep all hashes apart (RFC
-- 8554, 4.3 and appendix A).
use Rattle.std.specs.Prelude.{ℕ, List, ◌∷◌, ◌++◌}
use Rattle.sha2.specs.Sha256.{sha256}
use Rattle.lms_spec.specs.Bytes.{u16str, u32str}

-- D_PBLC, D_MESG, D_LEAF, D_INTR: the constants that keep the hashes apart (4.3, 4.5, 5.3 and 7.1)
abbrev pub d_pblc : ℕ
d_pblc = 0x8080

abbrev pub d_mesg : ℕ
d_mesg = 0x8181

abbrev pub d_leaf : ℕ
d_leaf = 0x8282

abbrev pub d_intr : ℕ
d_intr = 0x8383

-- the first bytes of what each hash of a tree is over: the tree's identifier (I) and the number of
-- a leaf or a node
abbrev pub hash_prefix : List ℕ → ℕ → List ℕ
hash_prefix id number = id ++ u32str number

-- the secret of chain i (appendix A)
unfoldable pub chain_secret : List ℕ → List ℕ → ℕ → ℕ → List ℕ
chain_secret id seed q i = sha256 (hash_prefix id q ++ u16str i ++ 0xff ∷ seed)

-- step j of chain i (4.3)
unfoldable pub chain_step : List ℕ → ℕ → ℕ → ℕ → List ℕ → List ℕ
chain_step id q i j value = sha256 (hash_prefix id q ++ u16str i ++ j ∷ value)
