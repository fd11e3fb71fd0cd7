-- What each cause of a refusal means (this project's choice): `#` is for the first number that it names, `$` for the
-- second. A number that no cause has means nothing.
use Rattle.std.specs.Prelude.{ℕ, List, [], codes, ◌==◌, nat_lt, if◌then◌else◌}

-- of a list
unfoldable pub of_lists : ℕ → List ℕ
of_lists n =
    if n == 1 then codes "the list's length is no multiple of 64" else
    if n == 2 then codes "descriptor #: the operation code is not one of a move, fill, compare, compare pattern, delta or dualcast, or of a checksum if there may be one" else
    if n == 3 then codes "descriptor #: flags 0x0004 and 0x0008 have to be set; 0x0010 (interrupt), 0x0040 and bits 16 to 23 (of a checksum 19 to 23) may not; 0x0001 (fence) only in lists with barriers; 0x0080 (check) only in compares" else
    if n == 4 then codes "descriptor #: a reserved bit or byte is not zero" else
    if n == 5 then codes "descriptor #: the transfer size is 0" else
    if n == 6 then codes "descriptor #: an address of its data or its record would be 2^64 or more" else
    if n == 7 then codes "descriptor #: the record's address is no multiple of 32" else
    if n == 8 then codes "descriptor #: the low twelve bits of a dualcast's destinations differ" else
    if n == 9 then codes "descriptor #: two of a dualcast's ranges meet, or a delta's record and its destination, or what a copy with CRC reads and its destination" else
    if n == 10 then codes "descriptor #: a delta's size is no multiple of 8 or above 0x80000, its destination no multiple of 8, or its record's size no multiple of 10" else
    if n == 11 then codes "descriptor #: the expected result of a compare or a compare pattern is above 1" else
    if n == 12 then codes "descriptor #: its PASID or privilege is not the first operation's" else
    if n == 13 then codes "descriptor #: the 32 bytes of the record meet a data range" else
    []

-- of an image, or of operations that are split
unfoldable pub of_operations : ℕ → List ℕ
of_operations n =
    if n == 20 then codes "the image lacks an address of piece #" else
    if n == 21 then codes "the image has more than 16 MiB, or an address of it would be 2^64 or more" else
    if n == 30 then codes "operation # is a delta longer than the greatest transfer" else
    if n == 31 then codes "operation # checks for a difference and needs more than one piece" else
    if n == 32 then codes "there are more than 65,536 pieces" else
    if n == 33 then codes "the staging area, 96 bytes for each piece, meets a range of piece #" else
    if n == 34 then codes "the row of records of operation #'s pieces meets its own data" else
    if n == 35 then codes "an address of the row of records of operation # would be 2^64 or more" else
    if n == 37 then codes "descriptor # is longer than the greatest transfer: split it first" else
    []

-- of a plan, or of the bytes that submit it
unfoldable pub of_plans : ℕ → List ℕ
of_plans n =
    if n == 40 then codes "the sizes of the groups do not add up to the number of pieces" else
    if n == 41 then codes "group # is empty or larger than the greatest batch" else
    if n == 42 then codes "the first of group # is fenced" else
    if n == 43 then codes "pieces # and $ of one group conflict, or have a barrier between, but no fence" else
    if n == 44 then codes "the portal's length is no multiple of 64" else
    if n == 45 then codes "the number of descriptors in the batch entry of group # is outside 2 to the greatest batch, or a byte is not the one of its place" else
    if n == 46 then codes "the staging's length is not 64 for each piece in a batch and 32 for each batch, or there are more than 65,536 pieces" else
    if n == 47 then codes "piece # is refused" else
    if n == 48 then codes "the first piece of group # is fenced" else
    if n == 49 then codes "the 32 record bytes of batch # are not all zero" else
    []

-- of a certificate
unfoldable pub of_certificates : ℕ → List ℕ
of_certificates n =
    if n == 50 then codes "the certificate is no document of a certificate" else
    if n == 60 then codes "the plan is not legal" else
    if n == 61 then codes "there are not n + 1 prices and n pairs for n pieces" else
    if n == 62 then codes "the pair of piece # is not one of conflicting pieces from there on" else
    if n == 63 then codes "one group from piece # on gives a lower price at $ (0 and 0: the first price is not 0)" else
    if n == 64 then codes "the last price is not the plan's cost" else
    if n == 65 then codes "the certificate is of another version than the settings" else
    if n == 66 then codes "the submitted piece # is not the list's" else
    []

-- of a run, or of a job
unfoldable pub of_runs : ℕ → List ℕ
of_runs n =
    if n == 70 then codes "the gate of the engines refused" else
    if n == 71 then codes "the work of a line was out of date when it came back" else
    if n == 72 then codes "the room that the engines left is not over, or not of the caller's image, plan and pieces" else
    if n == 73 then codes "there was not enough memory" else
    if n == 75 then codes "a run could have more than 4,194,304 events" else
    if n == 76 then codes "event # of the trace is no step" else
    if n == 77 then codes "the trace is no complete run" else
    if n == 80 then codes "the text is no JSON" else
    if n == 81 then codes "a member is missing, of another kind, or not named for the job" else
    if n == 82 then codes "`do` is missing or names no job" else
    if n == 83 then codes "a setting is outside its limits, the version is neither 1 nor 2, or the table of prices has a wrong length" else
    if n == 84 then codes "bytes are no hexadecimal text of even length" else
    if n == 85 then codes "there are not 1 to 64 engines" else
    if n == 86 then codes "the text has more than 67,108,864 bytes" else
    []

-- of arrays of a caller, and of prepared lists
unfoldable pub of_buffers : ℕ → List ℕ
of_buffers n =
    if n == 90 then codes "a buffer is too small for the bytes to submit: portal needs # bytes and staging $" else
    if n == 91 then codes "an array is too small for the prices, the pairs or the marks of # pieces" else
    if n == 92 then codes "the array of rows is too small: # rows are needed" else
    if n == 93 then codes "the buffer is too small for the list of what is left: # bytes are needed" else
    if n == 94 then codes "the array of reasons is too small: # reasons are needed" else
    if n == 95 then codes "the array of warnings is too small: # warnings are needed" else
    if n == 100 then codes "region # goes past 2^64" else
    if n == 101 then codes "region # begins before the one before it has ended" else
    if n == 102 then codes "a range of operation #, or the row of its records, lies in no one region" else
    if n == 103 then codes "there are not as many bases as regions" else
    if n == 104 then codes "a buffer is shorter than the bytes to submit" else
    if n == 105 then codes "at its new base region # would go past 2^64" else
    if n == 106 then codes "a completion record in region # would be no multiple of 32, or a delta's destination there no multiple of 8" else
    if n == 107 then codes "the two destinations of a dualcast, in regions # and $, would differ in their low 12 bits" else
    if n == 108 then codes "at their new bases region # and the earlier region $ share an address" else
    if n == 109 then codes "at its new base region # has an address in the staging area, 96 bytes for each piece" else
    if n == 110 then codes "the staging address is no multiple of 64, or above 2^63" else
    if n == 111 then codes "the rows do not have the form of a prepared list" else
    if n == 112 then codes "there are not 32 bytes of completion records for each piece" else
    if n == 113 then codes "one of pieces # and $ writes into the other's record: resume from the failed entry on if only groups before it share records; else restore the memory, and run the whole list with a record for each" else
    if n == 114 then codes "piece # is given up, but the status in its record is not 3 or above, or there is no such piece" else
    if n == 115 then codes "piece $ has begun, piece # has not succeeded, a barrier is between: restore memory, run the whole list" else
    []

-- of trackers
unfoldable pub of_trackers : ℕ → List ℕ
of_trackers n =
    if n == 120 then codes "no slot is free (a tracker has at most 64): complete a submission first" else
    if n == 121 then codes "the submission may read or write # spans, more than the tracker keeps of one" else
    if n == 122 then codes "slot # has no outstanding submission" else
    if n == 123 then codes "the submission of slot # still waits for another" else
    if n == 124 then codes "span # goes past 2^64" else
    if n == 125 then codes "piece # has another PASID or privilege than the first piece that came" else
    if n == 126 then codes "the words do not have the form of a tracker, or are too few for one of these measures" else
    if n == 127 then codes "the groups of the plan do not have as many pieces as there are" else
    if n == 128 then codes "the plan has # groups, more than slots are free (of at most 64) or have a place in the array" else
    []

-- of texts and pictures
unfoldable pub of_texts : ℕ → List ℕ
of_texts n =
    if n == 130 then codes "a line of the text leaves the grammar" else
    if n == 131 then codes "a picture has at most 1,024 groups or submissions, and 65,536 entries" else
    if n == 132 then codes "options give settings beside a job, which has settings of its own" else
    []

-- of settings, by the number of the setting that is outside its limits; for any other number, the limits of all
unfoldable pub of_settings : ℕ → List ℕ
of_settings n =
    if n == 1 then codes "the version of the settings is neither 1 nor 2" else
    if n == 2 then codes "the greatest batch is not 2 to 1,024 pieces" else
    if n == 3 then codes "the greatest transfer is not 8 to 2^31 bytes, or no multiple of 8" else
    if n == 4 then codes "the price of a lone descriptor is above 1,000,000,000" else
    if n == 5 then codes "the price of a batch is above 1,000,000,000" else
    if n == 6 then codes "the price of a fence is above 1,000,000,000" else
    if n == 7 then codes "the staging address is no multiple of 64, or above 2^63" else
    if n == 8 then codes "the table does not have a price of at most 1,000,000,000 for each size of a batch from 2 to the greatest" else
    codes "a setting is outside its limits, the version is neither 1 nor 2, or the table of prices has a wrong length"

-- of a new tracker, by the place in the call of the measure that is outside its limits; for any other number, what the
-- words of a tracker lack
unfoldable pub of_measures : ℕ → List ℕ
of_measures n =
    if n == 1 then codes "a tracker has at most 64 slots" else
    if n == 3 then codes "log2_rows of a tracker is not 1 to 32" else
    if n == 4 then codes "log2_unit of a tracker is not 1 to 63" else
    if n == 5 then codes "there are too few words for a tracker of these measures" else
    codes "the words do not have the form of a tracker, or are too few for one of these measures"

-- of any number
abbrev pub sentence : ℕ → List ℕ
sentence n =
    if nat_lt n 20 then of_lists n else
    if nat_lt n 40 then of_operations n else
    if nat_lt n 50 then of_plans n else
    if nat_lt n 70 then of_certificates n else
    if nat_lt n 90 then of_runs n else
    if nat_lt n 120 then of_buffers n else
    if nat_lt n 130 then of_trackers n else
    of_texts n

-- of any number; 83 names the setting by its first number, and 126 the measure
abbrev pub said : ℕ → ℕ → List ℕ
said number first = if number == 83 then of_settings first else if number == 126 then of_measures first else sentence number
