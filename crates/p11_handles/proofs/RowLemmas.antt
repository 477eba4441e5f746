-- Rows of files, read from the front.
use Rattle.std.proofs.Common.{◌≡◌, ◌≢◌, ℕ, suc, ◌+◌, ◌*◌, ◌-◌, ◌/◌, ◌%◌, ◌^◌, ◌<◌, ◌≤◌, List, [], ◌∷◌, ◌++◌, length, take, drop, get_or, refl, sym, ap, ◌∙◌, subst, arith, append_assoc, All}
use Rattle.std.proofs.lemmas.List.{length-append, length-drop, take-append-drop, length-take, take_all, take_more, flat_map_more}
use Rattle.std.proofs.lemmas.List.Elements.{All-nil, All-cons, All-append}
use Rattle.std.proofs.Math.Seq.{drop-append_seam, take-append_seam}
use Rattle.p11_store.specs.Calls.Files.{NamedBytes}
use Rattle.p11_handles.specs.Rows.{number_bytes, counted, file_row, row_of, Fits, IsRow, Follows, FollowsFile, HasNoFile, HasNoBytes, IsNoRow, RowsReadBack}

-- parts of one length, and what follows them
same_front : (a b r s : List ℕ) → length a ≡ length b → a ++ r ≡ b ++ s → a ≡ b
same_front a b r s n e = sym (take-append_seam a r) ∙ (ap (λ (l : List ℕ). take (length a) l) e ∙ (ap (λ (k : ℕ). take k (b ++ s)) n ∙ take-append_seam b s))

same_rest : (a b r s : List ℕ) → length a ≡ length b → a ++ r ≡ b ++ s → r ≡ s
same_rest a b r s n e = sym (drop-append_seam a r) ∙ (ap (λ (l : List ℕ). drop (length a) l) e ∙ (ap (λ (k : ℕ). drop k (b ++ s)) n ∙ drop-append_seam b s))

-- a number is in its 4 bytes
same_number : (m n : ℕ) → m < 2 ^ 32 → n < 2 ^ 32 → m % 256 ≡ n % 256 → m / 256 % 256 ≡ n / 256 % 256 → m / 65536 % 256 ≡ n / 65536 % 256 → m / 16777216 % 256 ≡ n / 16777216 % 256 → m ≡ n
same_number m n hm hn a b c d = omega arith

number_once : (m n : ℕ) (r s : List ℕ) → m < 2 ^ 32 → n < 2 ^ 32 → number_bytes m ++ r ≡ number_bytes n ++ s → (m ≡ n) × (r ≡ s)
unfolding number_bytes
number_once m n r s hm hn e = (
  same_number m n hm hn (ap (λ (l : List ℕ). get_or l 0 0) e) (ap (λ (l : List ℕ). get_or l 1 0) e) (ap (λ (l : List ℕ). get_or l 2 0) e) (ap (λ (l : List ℕ). get_or l 3 0) e),
  ap (λ (l : List ℕ). drop 4 l) e,
)

behind_number : (bytes rest : List ℕ) → counted bytes ++ rest ≡ number_bytes (length bytes) ++ (bytes ++ rest)
unfolding counted
behind_number bytes rest = append_assoc (number_bytes (length bytes)) bytes rest

-- bytes behind their number are there once
counted_length : (a b r s : List ℕ) → length a < 2 ^ 32 → length b < 2 ^ 32 → counted a ++ r ≡ counted b ++ s → (length a ≡ length b) × (a ++ r ≡ b ++ s)
counted_length a b r s ha hb e = number_once (length a) (length b) (a ++ r) (b ++ s) ha hb (sym (behind_number a r) ∙ (e ∙ behind_number b s))

counted_once : (a b r s : List ℕ) → length a < 2 ^ 32 → length b < 2 ^ 32 → counted a ++ r ≡ counted b ++ s → (a ≡ b) × (r ≡ s)
counted_once a b r s ha hb e =
    let once = counted_length a b r s ha hb e in
    (same_front a b r s once.0 once.1, same_rest a b r s once.0 once.1)

file_split : (file : NamedBytes) (rest : List ℕ) → file_row file ++ rest ≡ counted file.name ++ (counted file.bytes ++ rest)
unfolding file_row
file_split file rest = append_assoc (counted file.name) (counted file.bytes) rest

same_file : (f g : NamedBytes) → f.name ≡ g.name → f.bytes ≡ g.bytes → f ≡ g
same_file f g name bytes =
    let first : f ≡ record { name = g.name; bytes = f.bytes } = ap (λ (n : List ℕ). let file : NamedBytes = record { name = n; bytes = f.bytes } in file) name in
    let second : (let file : NamedBytes = record { name = g.name; bytes = f.bytes } in file) ≡ g = ap (λ (b : List ℕ). let file : NamedBytes = record { name = g.name; bytes = b } in file) bytes in
    first ∙ second

file_once : (f g : NamedBytes) (r s : List ℕ) → Fits f → Fits g → file_row f ++ r ≡ file_row g ++ s → (f ≡ g) × (r ≡ s)
file_once f g r s ff fg e =
    let first = counted_once f.name g.name (counted f.bytes ++ r) (counted g.bytes ++ s) ff.name fg.name (sym (file_split f r) ∙ (e ∙ file_split g s)) in
    let second = counted_once f.bytes g.bytes r s ff.bytes fg.bytes first.1 in
    (same_file f g first.0 second.0, second.1)

-- a row with a file isn't empty
some_row : (file : NamedBytes) (rest : List ℕ) → [] ≢ file_row file ++ rest
unfolding file_row counted number_bytes
some_row file rest e = let h : 0 ≡ length (file_row file ++ rest) = ap (λ (l : List ℕ). length l) e in absurd (omega (arith, h))

first_of : (file : NamedBytes) (files : List NamedBytes) → All Fits (file ∷ files) → Fits file
first_of file files fit = fit 0 file (omega arith)

others_of : (file : NamedBytes) (files : List NamedBytes) → All Fits (file ∷ files) → All Fits files
others_of file files fit = λ k d below. fit (suc k) d (omega arith)

-- what is left of a row once some of its files are taken
pub record Left (rest : List ℕ) : Type 0 where
  pub files : List NamedBytes
  pub is : IsRow rest files

remains : (done all : List NamedBytes) (rest : List ℕ) → All Fits done → All Fits all → row_of done ++ rest ≡ row_of all → Left rest
remains [] all rest fd fa e = record { files = all; is = record { row_is = e; fit = fa } }
remains (f ∷ done) [] rest fd fa e = absurd (some_row f (row_of done ++ rest) (sym (sym (append_assoc (file_row f) (row_of done) rest) ∙ e)))
remains (f ∷ done) (g ∷ all) rest fd fa e =
    let once = file_once f g (row_of done ++ rest) (row_of all) (first_of f done fd) (first_of g all fa) (sym (append_assoc (file_row f) (row_of done) rest) ∙ e) in
    remains done all rest (others_of f done fd) (others_of g all fa) once.1

nothing_left : (rest : List ℕ) (files : List NamedBytes) → 0 < length rest → HasNoFile rest → IsRow rest files → ⊥
nothing_left rest [] some none is = let h : length rest ≡ 0 = ap (λ (l : List ℕ). length l) is.row_is in absurd (omega (arith, h, some))
nothing_left rest (file ∷ files) some none is = none file (row_of files) (record { split = is.row_is; fits = first_of file files is.fit })

-- no file begins what is left, so that it is no row
pub is_no_row : (row rest : List ℕ) (done : List NamedBytes) → row ≡ row_of done ++ rest → All Fits done → 0 < length rest → HasNoFile rest → IsNoRow row
is_no_row row rest done split fit some none files is =
    let left = remains done files rest fit is.fit (sym split ∙ is.row_is) in
    nothing_left rest left.files some none left.is

same_files : (files others : List NamedBytes) → All Fits files → All Fits others → row_of files ≡ row_of others → files ≡ others
same_files [] [] ff fo e = refl
same_files [] (g ∷ others) ff fo e = absurd (some_row g (row_of others) e)
same_files (f ∷ files) [] ff fo e = absurd (some_row f (row_of files) (sym e))
same_files (f ∷ files) (g ∷ others) ff fo e =
    let once = file_once f g (row_of files) (row_of others) (first_of f files ff) (first_of g others fo) e in
    ap (λ (h : NamedBytes). h ∷ files) once.0 ∙ ap (λ (hs : List NamedBytes). g ∷ hs) (same_files files others (others_of f files ff) (others_of g others fo) once.1)

pub read_back : RowsReadBack
read_back row files others is other = same_files files others is.fit other.fit (sym is.row_is ∙ other.row_is)

-- the number in 4 bytes
four : (a b c d e f g h : ℕ) (rest : List ℕ) → e ≡ a → f ≡ b → g ≡ c → h ≡ d → a ∷ b ∷ c ∷ d ∷ rest ≡ e ∷ f ∷ g ∷ h ∷ rest
four a b c d e f g h rest p q r s =
    sym (ap (λ (x : ℕ). x ∷ f ∷ g ∷ h ∷ rest) p ∙ (ap (λ (x : ℕ). a ∷ x ∷ g ∷ h ∷ rest) q ∙ (ap (λ (x : ℕ). a ∷ b ∷ x ∷ h ∷ rest) r ∙ ap (λ (x : ℕ). a ∷ b ∷ c ∷ x ∷ rest) s)))

pub number_back : (bytes : List ℕ) (n : ℕ) → 4 ≤ length bytes → ((k : ℕ) → get_or bytes k 0 < 256) → n ≡ get_or bytes 0 0 + 256 * get_or bytes 1 0 + 65536 * (get_or bytes 2 0 + 256 * get_or bytes 3 0) → bytes ≡ number_bytes n ++ drop 4 bytes
unfolding number_bytes
number_back [] n long small is = absurd (omega (arith, long))
number_back (a ∷ []) n long small is = absurd (omega (arith, long))
number_back (a ∷ b ∷ []) n long small is = absurd (omega (arith, long))
number_back (a ∷ b ∷ c ∷ []) n long small is = absurd (omega (arith, long))
number_back (a ∷ b ∷ c ∷ d ∷ rest) n long small is =
    let ha : a < 256 = small 0 in
    let hb : b < 256 = small 1 in
    let hc : c < 256 = small 2 in
    let hd : d < 256 = small 3 in
    let e : n ≡ a + 256 * b + 65536 * (c + 256 * d) = is in
    four a b c d (n % 256) (n / 256 % 256) (n / 65536 % 256) (n / 16777216 % 256) rest
    (omega (arith, e, ha, hb, hc, hd)) (omega (arith, e, ha, hb, hc, hd)) (omega (arith, e, ha, hb, hc, hd)) (omega (arith, e, ha, hb, hc, hd))

-- what is behind a number
length_counted : (bytes rest : List ℕ) → length (counted bytes ++ rest) ≡ 4 + (length bytes + length rest)
unfolding number_bytes
length_counted bytes rest =
    let h : length (counted bytes ++ rest) ≡ length (number_bytes (length bytes) ++ (bytes ++ rest)) = ap (λ (l : List ℕ). length l) (behind_number bytes rest) in
    omega (arith, h, length-append bytes rest)

pub too_short : (row : List ℕ) → length row < 4 → HasNoBytes row
too_short row short bytes rest follows = absurd (omega (arith, short, ap (λ (l : List ℕ). length l) follows.split, length_counted bytes rest))

too_few : (row : List ℕ) (n : ℕ) (rest : List ℕ) → row ≡ number_bytes n ++ rest → n < 2 ^ 32 → length rest < n → HasNoBytes row
too_few row n rest split small few bytes after follows =
    let once = number_once n (length bytes) rest (bytes ++ after) small follows.fits (sym split ∙ (follows.split ∙ behind_number bytes after)) in
    let long : length rest ≡ length bytes + length after = ap (λ (l : List ℕ). length l) once.1 ∙ length-append bytes after in
    absurd (omega (arith, few, once.0, long))

enough : (row : List ℕ) (n : ℕ) (rest bytes after : List ℕ) → row ≡ number_bytes n ++ rest → n < 2 ^ 32 → length bytes ≡ n → rest ≡ bytes ++ after → Follows row bytes after
enough row n rest bytes after split small count cut = record {
  split = split ∙ (ap (λ (l : List ℕ). number_bytes n ++ l) cut ∙ (ap (λ (k : ℕ). number_bytes k ++ (bytes ++ after)) (sym count) ∙ sym (behind_number bytes after)));
  fits = omega (arith, small, count);
}

-- the same of what the code cuts
behind_four : (row : List ℕ) → take (length row - 4) (drop 4 row) ≡ drop 4 row
behind_four row = take_all (length row - 4) (drop 4 row) (omega (arith, length-drop 4 row))

with_rest : (row : List ℕ) (n : ℕ) → row ≡ number_bytes n ++ drop 4 row → row ≡ number_bytes n ++ take (length row - 4) (drop 4 row)
with_rest row n split = split ∙ ap (λ (l : List ℕ). number_bytes n ++ l) (sym (behind_four row))

pub few_left : (row : List ℕ) (n : ℕ) → row ≡ number_bytes n ++ drop 4 row → n < 2 ^ 32 → length (take (length row - 4) (drop 4 row)) < n → HasNoBytes row
few_left row n split small few = too_few row n (take (length row - 4) (drop 4 row)) (with_rest row n split) small few

cut : (n : ℕ) (rest : List ℕ) → n ≤ length rest → rest ≡ take n rest ++ take (length rest - n) (drop n rest)
cut n rest within =
    let whole : take (length rest - n) (drop n rest) ≡ drop n rest = take_all (length rest - n) (drop n rest) (omega (arith, length-drop n rest)) in
    rw whole (sym (take-append-drop n rest))

taken : (n : ℕ) (rest : List ℕ) → n ≤ length rest → length (take n rest) ≡ n
taken n rest within = grind (arith, length-take n rest)

pub some_left : (row : List ℕ) (n : ℕ) → row ≡ number_bytes n ++ drop 4 row → n < 2 ^ 32 → n ≤ length (take (length row - 4) (drop 4 row)) → Follows row (take n (take (length row - 4) (drop 4 row))) (take (length (take (length row - 4) (drop 4 row)) - n) (drop n (take (length row - 4) (drop 4 row))))
some_left row n split small within =
    let rest : List ℕ = take (length row - 4) (drop 4 row) in
    enough row n rest (take n rest) (take (length rest - n) (drop n rest)) (with_rest row n split) small (taken n rest within) (cut n rest within)

-- a name and bytes are a file
pub no_name : (row : List ℕ) → HasNoBytes row → HasNoFile row
no_name row none file rest follows = none file.name (counted file.bytes ++ rest) (record { split = follows.split ∙ file_split file rest; fits = follows.fits.name })

pub no_bytes : (row name rest : List ℕ) → Follows row name rest → HasNoBytes rest → HasNoFile row
no_bytes row name rest named none file after follows =
    let once = counted_once name file.name rest (counted file.bytes ++ after) named.fits follows.fits.name (sym named.split ∙ (follows.split ∙ file_split file after)) in
    none file.bytes after (record { split = once.1; fits = follows.fits.bytes })

pub a_file : (row name rest bytes after : List ℕ) → Follows row name rest → Follows rest bytes after → FollowsFile row (record { name = name; bytes = bytes }) after
a_file row name rest bytes after named held =
    let file : NamedBytes = record { name = name; bytes = bytes } in
    record {
      split = named.split ∙ (ap (λ (l : List ℕ). counted name ++ l) held.split ∙ sym (file_split file after));
      fits = record { name = named.fits; bytes = held.fits };
    }

-- rows grow by a file
pub row_more : (row : List ℕ) (done : List NamedBytes) (file : NamedBytes) (rest next : List ℕ) → row ≡ row_of done ++ rest → FollowsFile rest file next → row ≡ row_of (done ++ file ∷ []) ++ next
row_more row done file rest next split follows =
    split ∙ (ap (λ (l : List ℕ). row_of done ++ l) follows.split
    ∙ (sym (append_assoc (row_of done) (file_row file) next) ∙ ap (λ (l : List ℕ). l ++ next) (flat_map_more file_row [] done file)))

pub row_of_more : (row : List ℕ) (done items : List NamedBytes) (file : NamedBytes) (name bytes rest next : List ℕ) → row ≡ row_of done ++ rest → FollowsFile rest (record { name = name; bytes = bytes }) next → file ≡ record { name = name; bytes = bytes } → items ≡ done ++ file ∷ [] → row ≡ row_of items ++ next
row_of_more row done items file name bytes rest next split follows file_is items_is =
    let held : FollowsFile rest file next = let P : NamedBytes → Type 0 = λ f. FollowsFile rest f next in subst P (sym file_is) follows in
    row_more row done file rest next split held ∙ ap (λ (fs : List NamedBytes). row_of fs ++ next) (sym items_is)

pub fit_of_more : (done items : List NamedBytes) (file : NamedBytes) (name bytes rest next : List ℕ) → All Fits done → FollowsFile rest (record { name = name; bytes = bytes }) next → file ≡ record { name = name; bytes = bytes } → items ≡ done ++ file ∷ [] → All Fits items
fit_of_more done items file name bytes rest next fit follows file_is items_is =
    let fits : Fits file = let P : NamedBytes → Type 0 = λ f. Fits f in subst P (sym file_is) follows.fits in
    let more : All Fits (done ++ file ∷ []) = All-append Fits done (file ∷ []) fit (All-cons Fits file [] fits (All-nil Fits)) in
    let P : List NamedBytes → Type 0 = λ fs. All Fits fs in subst P (sym items_is) more

-- a file is written behind a row
row_put : (row name bytes : List ℕ) (file : NamedBytes) → name ≡ file.name → bytes ≡ file.bytes → (row ++ counted name) ++ counted bytes ≡ row ++ file_row file
unfolding file_row
row_put row name bytes file named held = rw (named, held) (append_assoc row (counted file.name) (counted file.bytes))

pub file_put : (files : List NamedBytes) (i : ℕ) (file : NamedBytes) (row named after name bytes : List ℕ) → i < length files → file ≡ get_or files i file → row ≡ row_of (take i files) → named ≡ row ++ counted name → after ≡ named ++ counted bytes → name ≡ file.name → bytes ≡ file.bytes → after ≡ row_of (take (i + 1) files)
file_put files i file row named after name bytes below item before first second name_is bytes_is =
    let whole : after ≡ row ++ file_row file = second ∙ (ap (λ (l : List ℕ). l ++ counted bytes) first ∙ row_put row name bytes file name_is bytes_is) in
    let more : row_of (take i files ++ file ∷ []) ≡ row_of (take (i + 1) files) = ap (λ (fs : List NamedBytes). row_of fs) (ap (λ (f : NamedBytes). take i files ++ f ∷ []) item ∙ sym (take_more files i file below)) in
    whole ∙ (ap (λ (l : List ℕ). l ++ file_row file) before ∙ (flat_map_more file_row [] (take i files) file ∙ more))
