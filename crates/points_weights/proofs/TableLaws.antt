-- The tables of the code, by the bit patterns that their numbers have, are those of document 01's decimals: computed, row by row. Assumes nothing.
use mathlib.Core.Path.{◌≡◌, refl}
use mathlib.Core.List.{List, [], ◌∷◌, map}
use Prim.Native.Nat.{ℕ, zero, suc, ◌<◌}
use native.Mathlib.Omega.{arith}
use lib.ListN.{get_or, length}
use lib.Ieee.{binary64, of_bits, round}
use Rattle.scope.specs.declared.records.Weights.{Weights}
use Rattle.scope.specs.Weights.{dec, row, loop_rows, sqrt_rows}
use Rattle.points_weights.specs.Tables.{largest, no_row, weights, table}

abbrev bits : ℕ → ℕ → Weights
bits a b = record { first = of_bits binary64 a; second = of_bits binary64 b }

abbrev loop-bits : List Weights
loop-bits =
    bits 0x7fefffffffffffff 0x7fefffffffffffff ∷
    bits 0x3fe8800000000000 0x3fce000000000000 ∷
    bits 0x3fd9000000000000 0x3fd3800000000000 ∷
    bits 0x3fdc000000000000 0x3fc8000000000000 ∷
    bits 0x3fe0800000000000 0x3fbf000000000000 ∷
    bits 0x3fe28b8ab04fbe3a 0x3fb58722191a02d6 ∷
    bits 0x3fe4000000000000 0x3fb0000000000000 ∷
    bits 0x3fe504b708b4380c 0x3fa919cb59d1c909 ∷
    bits 0x3fe5be1db337db36 0x3fa483c499904994 ∷
    bits 0x3fe645192382f5f2 0x3fa14c451633a019 ∷
    bits 0x3fe6a9c22a093d85 0x3f9de0c5dfe26e56 ∷
    bits 0x3fe6f682fcca096d 0x3f9a4a25dacb877d ∷
    bits 0x3fe732370b908e60 0x3f977a17e1292f00 ∷
    bits 0x3fe7617c2af694b4 0x3f95376be5037e45 ∷
    bits 0x3fe7878066ea80c4 0x3f935c915de7fe40 ∷
    bits 0x3fe7a680d586f84a 0x3f91cffe3879aa0d ∷
    bits 0x3fe7c0192a0d745c 0x3f907fcdabe51748 ∷
    bits 0x3fe7d576b0453c0f 0x3f8ebe412c28874f ∷
    bits 0x3fe7e779a985e2f7 0x3f8cc8fa170783ae ∷
    bits 0x3fe7f6cb95be63a3 0x3f8b1188228c29a5 ∷
    bits 0x3fe803ee60798f96 0x3f898d0531ae3486 ∷
    bits 0x3fe80f46e6952a38 0x3f8832f728e4119e ∷
    bits 0x3fe819246171a696 0x3f86fcad7029be4c ∷
    bits 0x3fe821c5b6d310e2 0x3f85e4ceb55ba480 ∷
    bits 0x3fe8295d54a06639 0x3f84e7071e5444bd ∷
    bits 0x3fe8301407e713cc 0x3f83ffccb891b8d7 ∷
    bits 0x3fe8360b1a913578 0x3f832c336fd5a3c5 ∷
    bits 0x3fe83b5deba8e99e 0x3f8269cc0a49b051 ∷
    bits 0x3fe84023264f06a7 0x3f81b68b1626cc39 ∷
    bits 0x3fe8446db0ee65b1 0x3f8110b5a5ab42e3 ∷
    bits 0x3fe8484d66eedc14 0x3f8076d2579c085e ∷
    bits 0x3fe84bcfaa1e1b30 0x3f7fcf3b311013df ∷
    bits 0x3fe84effd577f5cb 0x3f7ec400aa2028d4 ∷
    bits 0x3fe851e798717142 0x3f7dca11158dcc93 ∷
    bits 0x3fe8548f4019a91a 0x3f7cdfc69635fbda ∷
    bits 0x3fe856fdf2125c0c 0x3f7c03afbde8be00 ∷
    bits 0x3fe85939dc6ac6ae 0x3f7b34879af62124 ∷
    bits 0x3fe85b485cb08e31 0x3f7a712f2e0bea95 ∷
    bits 0x3fe85d2e20020660 0x3f79b8a7fff92de5 ∷
    bits 0x3fe85eef3d86749a 0x3f790a0f9f18c2f3 ∷
    bits 0x3fe8608f4c631d7a 0x3f78649bd85c6e7a ∷
    bits 0x3fe8621176087b66 0x3f77c79789432d96 ∷
    bits 0x3fe86378858547aa 0x3f77325fef2cdc74 ∷
    bits 0x3fe864c6f4699e7e 0x3f76a4625e071659 ∷
    bits 0x3fe865fef5a8f710 0x3f761d1a4ca01a00 ∷
    bits 0x3fe867227ed40fb2 0x3f759c0fa84f7855 ∷
    bits 0x3fe868334ff2e8b4 0x3f7520d56450f2ea ∷
    bits 0x3fe86932fa396b16 0x3f74ab083b4dd6ea ∷
    bits 0x3fe86a22e5c69996 0x3f743a4d9b43bbc5 ∷
    bits 0x3fe86b0456959014 0x3f73ce52b554bbe1 ∷
    bits 0x3fe86bd870c0a9a8 0x3f7366cbac274371 ∷
    bits 0x3fe86ca03c318e19 0x3f730372dc607d3f ∷
    bits 0x3fe86d5ca7d45d4c 0x3f72a4083b7f1a59 ∷
    bits 0x3fe86e0e8c607bd6 0x3f724850c9f52bde ∷
    bits 0x3fe86eb6aec67cbd 0x3f71f01615dda8eb ∷
    bits 0x3fe86f55c2502758 0x3f719b25cc1242b1 ∷
    bits 0x3fe86fec6a7d8aee 0x3f71495155bc794e ∷
    bits 0x3fe8707b3ca85eca 0x3f70fa6d80c4c855 ∷
    bits 0x3fe87102c175847c 0x3f70ae5231bedb9f ∷
    bits 0x3fe87183761b54a7 0x3f7064da1e2429f9 ∷
    bits 0x3fe871fdcd82637a 0x3f701de28dd8c562 ∷
    bits 0x3fe872723145967a 0x3f6fb2964634172e ∷
    bits 0x3fe872e10295b40a 0x3f6f2deb502a83f8 ∷
    bits 0x3fe8734a9b03fef9 0x3f6ead8bc2fbf3ec ∷
    []

pub loop-same : loop-bits ≡ table loop_rows
unfolding of_bits round dec largest table
loop-same = refl

abbrev sqrt-bits : List Weights
sqrt-bits =
    bits 0x7fefffffffffffff 0x7fefffffffffffff ∷
    bits 0x3fe8e38e38e38e39 0x3fcc71c71c71c71c ∷
    bits 0x3fd5555555555556 0x3fd5555555555555 ∷
    bits 0x3fdc71c71c71c71c 0x3fc7b425ed097b43 ∷
    bits 0x3fe1c71c71c71c72 0x3fbc71c71c71c71c ∷
    bits 0x3fe3f9a8cd3e365e 0x3fb33d5851360f6a ∷
    bits 0x3fe5555555555556 0x3fac71c71c71c71c ∷
    bits 0x3fe63623c090df84 0x3fa65fae47d96ed2 ∷
    bits 0x3fe6ce5c16c6f0d8 0x3fa26347d2721e50 ∷
    bits 0x3fe739a707bc4ab7 0x3f9f330372b7d9e7 ∷
    bits 0x3fe787e1b0cc6f42 0x3f9b19fa970b68c6 ∷
    bits 0x3fe7c29101a4a746 0x3f97f888b566d391 ∷
    bits 0x3fe7efa988f72d7c 0x3f9580e692c23161 ∷
    bits 0x3fe81308dc7363c2 0x3f93826057818099 ∷
    bits 0x3fe82f465e9ef819 0x3f91dd160326ed7e ∷
    bits 0x3fe8462b7c38c704 0x3f907b5ef6fe576e ∷
    bits 0x3fe858fb8360912c 0x3f8e9c11f27dbb50 ∷
    bits 0x3fe868a0000c3b04 0x3f8c943c3c0e30e4 ∷
    bits 0x3fe875c4f24b2678 0x3f8acf0adb6693ab ∷
    bits 0x3fe880eb3a07cd4e 0x3f894045f929168d ∷
    bits 0x3fe88a74e7d64bc7 0x3f87de89e6ebda50 ∷
    bits 0x3fe892ada6293bba 0x3f86a28111cb7abe ∷
    bits 0x3fe899d0946683a2 0x3f85865b678ff56f ∷
    bits 0x3fe8a00c6cf1269c 0x3f84856e1ec52544 ∷
    bits 0x3fe8a586819e635a 0x3f839beea659a1bb ∷
    bits 0x3fe8aa5cea039515 0x3f82c6c03848bfca ∷
    bits 0x3fe8aea820abd4ab 0x3f82034e74806aaa ∷
    bits 0x3fe8b27c38af8233 0x3f814f7140becb61 ∷
    bits 0x3fe8b5e9c84ca5a5 0x3f80a9575abe8562 ∷
    bits 0x3fe8b8fe9c89c93d 0x3f800f75d2ac9c2a ∷
    bits 0x3fe8bbc6441b1c8e 0x3f7f00f654e1a84c ∷
    bits 0x3fe8be4a7bc0f0c8 0x3f7df68a641d2611 ∷
    bits 0x3fe8c093838c4d7c 0x3f7cfdb1f1ceca0e ∷
    bits 0x3fe8c2a8627e33cf 0x3f7c14b8b0831804 ∷
    bits 0x3fe8c48f1c8e26e1 0x3f7b3a2176614f84 ∷
    bits 0x3fe8c64cde20b221 0x3f7a6c9dbdb44ffc ∷
    bits 0x3fe8c7e61f3922b0 0x3f79ab06ad6dbd8e ∷
    bits 0x3fe8c95ec0261ed0 0x3f78f457596e494c ∷
    bits 0x3fe8caba2101197d 0x3f7847a7fc9dfafd ∷
    bits 0x3fe8cbfb350aefed 0x3f77a429fc93e5fc ∷
    bits 0x3fe8cd2492b54f31 0x3f77092490ef0296 ∷
    bits 0x3fe8ce3880fbd486 0x3f7675f1f070eba2 ∷
    bits 0x3fe8cf39028d9b94 0x3f75e9fcec074a6f ∷
    bits 0x3fe8d027df2d7d8c 0x3f7564bee4ae2b07 ∷
    bits 0x3fe8d106ab9ab98b 0x3f74e5be0cc98727 ∷
    bits 0x3fe8d1d6d043af38 0x3f746c8be87e0d9b ∷
    bits 0x3fe8d2998ef7b34a 0x3f73f8c402df7149 ∷
    bits 0x3fe8d35007c3089e 0x3f738a0acfa096d5 ∷
    bits 0x3fe8d3fb3d18173f 0x3f73200cb26a6cad ∷
    bits 0x3fe8d49c1762a1fc 0x3f72ba7d262d5e16 ∷
    bits 0x3fe8d533681ca201 0x3f725915ffb6b331 ∷
    bits 0x3fe8d5c1ec78530b 0x3f71fb96c79acb30 ∷
    bits 0x3fe8d6484fafa534 0x3f71a1c4282841f7 ∷
    bits 0x3fe8d6c72d06929f 0x3f714b676c9e0355 ∷
    bits 0x3fe8d73f118b9f53 0x3f70f84e0f4cbf3c ∷
    bits 0x3fe8d7b07d9ff789 0x3f70a84954a7a3fe ∷
    bits 0x3fe8d81be64f20c0 0x3f705b2df194476e ∷
    bits 0x3fe8d881b67cf458 0x3f7010d3bb8915af ∷
    bits 0x3fe8d8e24fef932e 0x3f6f922ac27d7660 ∷
    bits 0x3fe8d93e0c3a2633 0x3f6f07a055cb48e7 ∷
    bits 0x3fe8d9953d8c88d7 0x3f6e81c781eca716 ∷
    bits 0x3fe8d9e82f6b6094 0x3f6e0063f1a6491b ∷
    bits 0x3fe8da372753a3c5 0x3f6d833d4d1a4303 ∷
    bits 0x3fe8da82654c252d 0x3f6d0a1ee6690f89 ∷
    []

pub sqrt-same : sqrt-bits ≡ table sqrt_rows
unfolding of_bits round dec largest table
sqrt-same = refl

-- a row of a table is the definition's, row 0 aside
map_row : (rows : List (ℕ × ℕ)) (n : ℕ) → n < length rows → get_or (map weights rows) n no_row ≡ row rows n
unfolding row
map_row [] n l = absurd (omega arith)
map_row (p ∷ rows) zero l = refl
map_row (p ∷ rows) (suc n) l = map_row rows n (omega arith)

pub table-row : (rows : List (ℕ × ℕ)) (n : ℕ) → 0 < n → n < length rows → get_or (table rows) n no_row ≡ row rows n
unfolding table row
table-row [] n a l = absurd (omega arith)
table-row (p ∷ rows) zero a l = absurd (omega arith)
table-row (p ∷ rows) (suc n) a l = map_row rows n (omega arith)
