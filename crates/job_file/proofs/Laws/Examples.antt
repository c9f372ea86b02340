-- The page's own job as the file of its parts, and numbers at both ends of what their bytes hold.
-- Assumes nothing.
-- RULES: cases
use Rattle.std.specs.Prelude.{◌≡◌, refl, [], ◌∷◌, map, pos, negsuc}
use Rattle.power.specs.Gain.{triple}
use Rattle.job_settings.specs.declared.Settings.{Settings}
use Rattle.job_file.specs.File.{contents_for, file_of}
use Rattle.job_file.specs.Numbers.{signed_bits, settings_bytes_of, record_bytes_of}

-- algorithm 1, a step of 1 dB, one radio link set, 24 dBm, 1,280 units
abbrev settings : Settings
settings = record { pca = 1; step = 1; itp = 0; rpp = 0; links = 1; maximum = pos 24; start = pos 1280 }

-- "01 01 00 00 01 0f 0f 01 18 00 0005"
of_the_page : settings_bytes_of settings (triple 15 15 1) ≡ 1 ∷ 1 ∷ 0 ∷ 0 ∷ 1 ∷ 15 ∷ 15 ∷ 1 ∷ 24 ∷ 0 ∷ 0 ∷ 5 ∷ []
unfolding signed_bits settings_bytes_of
of_the_page = refl

-- "The job, in hex, of 49 bytes: `01 03 01 1d000000 0c000000 02 29000000 00000000 03 29000000 08000000 …`"
four_rows : file_of 1 (settings_bytes_of settings (triple 15 15 1)) [] (1 ∷ 6 ∷ 1 ∷ 6 ∷ 1 ∷ 6 ∷ 0 ∷ 6 ∷ []) ≡
    1 ∷ 3 ∷ 1 ∷ 29 ∷ 0 ∷ 0 ∷ 0 ∷ 12 ∷ 0 ∷ 0 ∷ 0 ∷ 2 ∷ 41 ∷ 0 ∷ 0 ∷ 0 ∷ 0 ∷ 0 ∷ 0 ∷ 0 ∷ 3 ∷ 41 ∷ 0 ∷ 0 ∷ 0 ∷ 8 ∷ 0 ∷ 0 ∷ 0 ∷
    1 ∷ 1 ∷ 0 ∷ 0 ∷ 1 ∷ 15 ∷ 15 ∷ 1 ∷ 24 ∷ 0 ∷ 0 ∷ 5 ∷ 1 ∷ 6 ∷ 1 ∷ 6 ∷ 1 ∷ 6 ∷ 0 ∷ 6 ∷ []
unfolding signed_bits settings_bytes_of contents_for file_of
four_rows = refl

-- the contents of the longest file: six records and 30,000 rows begin at byte 113 and have 60,000 = 234 · 256 + 96 bytes
longest : contents_for 1 12 72 60000 ≡
    1 ∷ 3 ∷ 1 ∷ 29 ∷ 0 ∷ 0 ∷ 0 ∷ 12 ∷ 0 ∷ 0 ∷ 0 ∷ 2 ∷ 41 ∷ 0 ∷ 0 ∷ 0 ∷ 72 ∷ 0 ∷ 0 ∷ 0 ∷ 3 ∷ 113 ∷ 0 ∷ 0 ∷ 0 ∷ 96 ∷ 234 ∷ 0 ∷ 0 ∷ []
unfolding contents_for
longest = refl

-- a signed byte, and two: the least and the greatest, those next to them that cannot be held, and −1
bytes : map (signed_bits 128) (negsuc 127 ∷ negsuc 0 ∷ pos 0 ∷ pos 127 ∷ []) ≡ 128 ∷ 255 ∷ 0 ∷ 127 ∷ []
unfolding signed_bits
bytes = refl

pairs :
    map (signed_bits 32768) (negsuc 32768 ∷ negsuc 32767 ∷ negsuc 0 ∷ pos 0 ∷ pos 32767 ∷ pos 32768 ∷ []) ≡
    32768 ∷ 32768 ∷ 65535 ∷ 0 ∷ 32767 ∷ 32767 ∷ []
unfolding signed_bits
pairs = refl

-- a start power of −9,600 units and a maximum of −50 dBm
below_zero : settings_bytes_of (record { pca = 1; step = 2; itp = 1; rpp = 1; links = 6; maximum = negsuc 49; start = negsuc 9599 }) (triple 1 2 3) ≡
    1 ∷ 2 ∷ 1 ∷ 1 ∷ 6 ∷ 1 ∷ 2 ∷ 3 ∷ 206 ∷ 0 ∷ 128 ∷ 218 ∷ []
unfolding signed_bits settings_bytes_of
below_zero = refl

-- a record whose numbers are all different
a_record : record_bytes_of (record { id = 1; direction = 3; tgsn = 7; tgl1 = 4; tgl2 = 5; tgpl = 144; tgprc = 511; tgd = 269; start = 65534 }) ≡
    1 ∷ 3 ∷ 7 ∷ 4 ∷ 5 ∷ 144 ∷ 255 ∷ 1 ∷ 13 ∷ 1 ∷ 254 ∷ 255 ∷ []
unfolding record_bytes_of
a_record = refl
